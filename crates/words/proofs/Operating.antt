-- The laws of first_standing: it finds the first operator with which the bytes begin.
use Rattle.std.proofs.Common.{◌≡◌, ℕ, zero, suc, ◌<◌, true, false, List, [], ◌∷◌, length, get_or, Some, None, Option, sym, refl, ap, subst, ⊎_elim, arith, lit<}
use Rattle.std.proofs.lemmas.Bool.{cases_Bool, both_ways}
use Rattle.byte_search.specs.Search.{stands_at}
use Rattle.byte_search.proofs.Stands.{stands_decides}
use Rattle.pieces.specs.declared.kind.Operator.{Operator}
use Rattle.pieces.specs.declared.kind.Operator.TheVariants.{Plus, Minus, Mul, Div, FloorDiv, Pow, Mod, Dot, Comma, Colon, Tilde, Assign, Pipe, Eq, Ne, Gt, Gte, Lt, Lte, BracketOpen, BracketClose, ParenOpen, ParenClose, BraceOpen, BraceClose}
use Rattle.pieces.specs.Kinds.{operator_text}
use Rattle.rules.specs.Tags.{operators, first_standing}
use Rattle.words.specs.Operators.{Begins, BeginsAt, FirstOperator}

first_here : (o : Operator) (os : List Operator) (xs : List ℕ) → stands_at (operator_text o) xs ≡ true → first_standing (o ∷ os) xs ≡ Some o
unfolding first_standing
first_here o os xs e = ap (λ t. elim t [ true ↦ Some o | false ↦ first_standing os xs ]) e

first_later : (o : Operator) (os : List Operator) (xs : List ℕ) → stands_at (operator_text o) xs ≡ false → first_standing (o ∷ os) xs ≡ first_standing os xs
unfolding first_standing
first_later o os xs e = ap (λ t. elim t [ true ↦ Some o | false ↦ first_standing os xs ]) e

-- FirstOperator of any list
Told : List Operator → List ℕ → Option Operator → Type 0
Told os xs None = (k : ℕ) → k < length os → (d : Operator) → Begins xs (get_or os k d) → ⊥
Told os xs (Some o) = (i : ℕ) × BeginsAt os xs o i

no_begin : (xs : List ℕ) (o : Operator) → stands_at (operator_text o) xs ≡ false → Begins xs o → ⊥
no_begin xs o e b = both_ways (stands_at (operator_text o) xs) e ((stands_decides (operator_text o) xs).1 b)

told_later : (o : Operator) (os : List Operator) (xs : List ℕ) (r : Option Operator) → stands_at (operator_text o) xs ≡ false → Told os xs r → Told (o ∷ os) xs r
unfolding Told
told_later o os xs None e t = λ k. elim k as (λ k. k < length (o ∷ os) → (d : Operator) → Begins xs (get_or (o ∷ os) k d) → ⊥) [ zero ↦ λ h d. no_begin xs o e | suc k ↦ λ h d. t k (omega arith) d ]
told_later o os xs (Some p) e (i, (h, f, b, n)) =
    (suc i, (omega arith, f, b, λ k. elim k as (λ k. k < suc i → Begins xs (get_or (o ∷ os) k p) → ⊥) [ zero ↦ λ l. no_begin xs o e | suc k ↦ λ l. n k (omega arith) ]))

told : (os : List Operator) (xs : List ℕ) → Told os xs (first_standing os xs)
unfolding first_standing Told
told [] xs = λ k h d b. omega arith
told (o ∷ os) xs = ⊎_elim
    (λ e. subst (Told (o ∷ os) xs) (sym (first_here o os xs e)) (0, (omega arith, refl, (stands_decides (operator_text o) xs).0 e, λ k h b. omega arith)))
    (λ e. subst (Told (o ∷ os) xs) (sym (first_later o os xs e)) (told_later o os xs (first_standing os xs) e (told os xs)))
    (cases_Bool (stands_at (operator_text o) xs))

-- every operator is in the list
listed : (o : Operator) → (k : ℕ) × (k < length operators) × ((d : Operator) → get_or operators k d ≡ o)
listed FloorDiv = (0, lit< tt, λ d. refl)
listed Pow = (1, lit< tt, λ d. refl)
listed Eq = (2, lit< tt, λ d. refl)
listed Ne = (3, lit< tt, λ d. refl)
listed Gte = (4, lit< tt, λ d. refl)
listed Lte = (5, lit< tt, λ d. refl)
listed Plus = (6, lit< tt, λ d. refl)
listed Minus = (7, lit< tt, λ d. refl)
listed Mul = (8, lit< tt, λ d. refl)
listed Div = (9, lit< tt, λ d. refl)
listed Mod = (10, lit< tt, λ d. refl)
listed Dot = (11, lit< tt, λ d. refl)
listed Comma = (12, lit< tt, λ d. refl)
listed Colon = (13, lit< tt, λ d. refl)
listed Tilde = (14, lit< tt, λ d. refl)
listed Pipe = (15, lit< tt, λ d. refl)
listed Assign = (16, lit< tt, λ d. refl)
listed Gt = (17, lit< tt, λ d. refl)
listed Lt = (18, lit< tt, λ d. refl)
listed ParenOpen = (19, lit< tt, λ d. refl)
listed ParenClose = (20, lit< tt, λ d. refl)
listed BracketOpen = (21, lit< tt, λ d. refl)
listed BracketClose = (22, lit< tt, λ d. refl)
listed BraceOpen = (23, lit< tt, λ d. refl)
listed BraceClose = (24, lit< tt, λ d. refl)

first_told : (xs : List ℕ) (r : Option Operator) → Told operators xs r → FirstOperator xs r
unfolding Told
first_told xs None t = λ o b. let l = listed o in t l.0 l.1 o (subst (Begins xs) (sym (l.2 o)) b)
first_told xs (Some o) t = t

-- what first_standing answers, in words
pub first_operator : (xs : List ℕ) (r : Option Operator) → r ≡ first_standing operators xs → FirstOperator xs r
first_operator xs r e = subst (FirstOperator xs) (sym e) (first_told xs (first_standing operators xs) (told operators xs))
