-- One call on a pile after another.
use Rattle.std.proofs.Common.{◌≡◌, ℕ, zero, suc, ◌+◌, ◌<◌, ◌≤◌, List, [], ◌∷◌, ◌++◌, map, length, get_or, set, take, drop, Some, Option, Result, sym, refl, ap, ◌∙◌, subst, arith, get_or-set_same}
use Rattle.std.proofs.lemmas.List.{append_assoc, append-nil, take_more, drop_more, drop_all, take_all, take-set-le, map-set, set-get_or, get_or-map, length-set, map-append}
use Rattle.std.specs.List.{AllByRecursion}
use Rattle.finder.specs.Finding.{Opening}
use Rattle.pieces.specs.declared.piece.Piece.{Piece}
use Rattle.pieces.specs.declared.fault.ReadFault.{ReadFault}
use Rattle.runs.specs.declared.pile.Turn.{Turn}
use Rattle.runs.specs.Piles.{Meaning, Tells, AllTold, calls_in, answers_in, unanswered, Answered, AllServe}

-- what holds of all holds at each place
each : {A : Type 0} (P : A → Type 0) (xs : List A) (i : ℕ) (d : A) → AllByRecursion P xs → i < length xs → P (get_or xs i d)
each P [] i d h k = absurd (omega arith)
each P (x ∷ xs) zero d h k = h.0
each P (x ∷ xs) (suc i) d h k = each P xs i d h.1 (omega arith)

module _ {F : Type 0} (Q : Type 0) (m : Meaning Piece) (cs : List (Turn F)) where
  -- in ds the first i of the calls cs have their answers; the pile means n from there on
  pub record Answering (n : Meaning Piece) (ds : List (Turn F)) (i : ℕ) : Type 0 where
    pub many : length ds ≡ length cs
    pub asked : map unanswered ds ≡ map unanswered cs
    pub told : Q → (rs : List (Result (Option Piece) ReadFault)) × (answers_in (take i ds) ≡ map Some rs)
        × ((qs : List (Result (Option Piece) ReadFault)) → AllTold n (calls_in (drop i cs)) qs → AllTold m (calls_in cs) (rs ++ qs))

  pub answering_none : Answering m cs 0
  answering_none = record { many = refl; asked = refl; told = λ q. ([], refl, λ qs h. h) }

  -- what is asked stays
  same_turn : (ds : List (Turn F)) (i : ℕ) (d : Turn F) → map unanswered ds ≡ map unanswered cs → i < length ds → i < length cs → unanswered (get_or ds i d) ≡ unanswered (get_or cs i d)
  same_turn ds i d e h k = sym (get_or-map unanswered ds i d (unanswered d) h) ∙ ap (λ l. get_or l i (unanswered d)) e ∙ get_or-map unanswered cs i d (unanswered d) k

  set_asked : (ds : List (Turn F)) (i : ℕ) (d : Turn F) (r : Option (Result (Option Piece) ReadFault)) → i < length ds
      → map unanswered (set ds i (record { call = (get_or ds i d).call; finder = (get_or ds i d).finder; answer = r })) ≡ map unanswered ds
  set_asked ds i d r h =
      map-set unanswered ds i (record { call = (get_or ds i d).call; finder = (get_or ds i d).finder; answer = r })
      ∙ ap (set (map unanswered ds) i) (sym (get_or-map unanswered ds i d (unanswered d) h))
      ∙ set-get_or (map unanswered ds) i (unanswered d)

  set_answers : (ds : List (Turn F)) (i : ℕ) (c : Turn F) → i < length ds → answers_in (take (i + 1) (set ds i c)) ≡ answers_in (take i ds) ++ c.answer ∷ []
  set_answers ds i c h =
      let l = length-set ds i c in
      ap answers_in (take_more (set ds i c) i c (omega arith))
      ∙ ap (λ l. answers_in (l ++ get_or (set ds i c) i c ∷ [])) (take-set-le i ds i c (omega arith))
      ∙ ap (λ x. answers_in (take i ds ++ x ∷ [])) (get_or-set_same ds i c c h)
      ∙ map-append (λ x. x.answer) (take i ds) (c ∷ [])

  -- one call more is answered
  pub answering_more : (n l : Meaning Piece) (ds : List (Turn F)) (i : ℕ) (d : Turn F) (r : Result (Option Piece) ReadFault) → Answering n ds i → i < length cs → (Q → Tells n (get_or ds i d).call r l)
      → Answering l (set ds i (record { call = (get_or ds i d).call; finder = (get_or ds i d).finder; answer = Some r })) (i + 1)
  unfolding AllTold
  answering_more n l ds i d r h k a =
      let e = h.many in
      let c : Turn F = record { call = (get_or ds i d).call; finder = (get_or ds i d).finder; answer = Some r } in
      let s = length-set ds i c in
      let z : calls_in (drop i cs) ≡ (get_or ds i d).call ∷ calls_in (drop (i + 1) cs) =
      ap calls_in (drop_more cs i d k) ∙ ap (λ t. t.call ∷ calls_in (drop (i + 1) cs)) (sym (same_turn ds i d h.asked (omega arith) k)) in
      record {
        many = omega arith;
        asked = set_asked ds i d (Some r) (omega arith) ∙ h.asked;
        told =
            λ q. let t = h.told q in (
              t.0 ++ r ∷ [],
              set_answers ds i c (omega arith) ∙ ap (λ y. y ++ Some r ∷ []) t.1 ∙ sym (map-append Some t.0 (r ∷ [])),
              λ qs b. subst (AllTold m (calls_in cs)) (sym (append_assoc t.0 (r ∷ []) qs)) (t.2 (r ∷ qs) (subst (λ y. AllTold n y (r ∷ qs)) (sym z) (l, a q, b))),
            );
      }

  -- all calls are answered
  pub answering_all : (n : Meaning Piece) (ds : List (Turn F)) (i : ℕ) → length cs ≤ i → Answering n ds i → Q → Answered m cs ds
  unfolding AllTold
  answering_all n ds i h d q =
      let e = d.many in
      let t = d.told q in (
        t.0,
        ap answers_in (sym (take_all i ds (omega arith))) ∙ t.1,
        subst (AllTold m (calls_in cs)) (append-nil t.0) (t.2 [] (subst (λ y. AllTold n (calls_in y) []) (sym (drop_all i cs h)) tt)),
      )

-- the finder of the next call may serve
pub served_at : {F : Type 0} (serves : List Opening → Type 0) (openings : F → List Opening) (m n : Meaning Piece) (cs ds : List (Turn F)) (i : ℕ) (d : Turn F) → (q : AllServe serves openings cs)
    → Answering (AllServe serves openings cs) m cs n ds i → i < length cs → serves (openings (get_or ds i d).finder)
served_at serves openings m n cs ds i d q h k =
    let e = h.many in
    subst (λ t. serves (openings t.finder)) (sym (same_turn (AllServe serves openings cs) m cs ds i d h.asked (omega arith) k)) (each (λ t. serves (openings t.finder)) cs i d q k)

-- finders that serve the one serve the other
pub all_serve : {F : Type 0} (P Q : List Opening → Type 0) (openings : F → List Opening) (ts : List (Turn F)) → ((os : List Opening) → P os → Q os) → AllServe P openings ts → AllServe Q openings ts
all_serve P Q openings [] f h = h
all_serve P Q openings (t ∷ ts) f h = (f (openings t.finder) h.0, all_serve P Q openings ts f h.1)
