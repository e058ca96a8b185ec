-- The bytes kept behind a place, in words: when there are none, and that looking back over them is looking back over the whole template.
use Rattle.std.proofs.Common.{◌≡◌, ℕ, zero, suc, ◌≤◌, true, false, eqb, List, [], ◌∷◌, ◌++◌, length, get_or, reverse, take, sym, refl, ap, ◌∙◌, subst, ⊎_elim}
use Rattle.std.proofs.lemmas.List.{append-nil, append_assoc, reverse-append}
use Rattle.std.proofs.lemmas.Bool.{cases_Bool, eqb-true}
use Rattle.std.proofs.Math.Seq.{take-suc}
use Rattle.finder.specs.Finding.{is_line_end, is_space_or_tab, blank_line}
use Rattle.rules.specs.Bytes.{push, pushes, behind_at, line_before}
use Rattle.rules.specs.Tags.{dot_behind}
use Rattle.runs.specs.Named.{is_dotted}

-- two lists of bytes behind from which one looks back to the same
pub record SameBack (b c : List ℕ) : Type 0 where
  pub line : (ys : List ℕ) → line_before b ys ≡ line_before c ys
  pub blank : blank_line b ≡ blank_line c
  pub dot : dot_behind b ≡ dot_behind c

line_yes : (x : ℕ) (b ys : List ℕ) → is_line_end x ≡ true → line_before (x ∷ b) ys ≡ ys
unfolding line_before
line_yes x b ys e = ap (λ t. elim t [ true ↦ ys | false ↦ line_before b (x ∷ ys) ]) e

line_no : (x : ℕ) (b ys : List ℕ) → is_line_end x ≡ false → line_before (x ∷ b) ys ≡ line_before b (x ∷ ys)
unfolding line_before
line_no x b ys e = ap (λ t. elim t [ true ↦ ys | false ↦ line_before b (x ∷ ys) ]) e

line_more : (x : ℕ) (b c ys : List ℕ) → SameBack b c → line_before (x ∷ b) ys ≡ line_before (x ∷ c) ys
line_more x b c ys h = ⊎_elim
    (λ e. line_yes x b ys e ∙ sym (line_yes x c ys e))
    (λ e. line_no x b ys e ∙ h.line (x ∷ ys) ∙ sym (line_no x c ys e))
    (cases_Bool (is_line_end x))

blank_more : (x : ℕ) (b c : List ℕ) → SameBack b c → blank_line (x ∷ b) ≡ blank_line (x ∷ c)
unfolding blank_line
blank_more x b c h = ap (λ r. elim (is_line_end x) [ true ↦ true | false ↦ elim (is_space_or_tab x) [ true ↦ r | false ↦ false ] ]) h.blank

lf_back : (c : List ℕ) → SameBack [] (10 ∷ c)
unfolding line_before blank_line
lf_back c = record { line = λ ys. refl; blank = refl; dot = refl }

push_back : (x : ℕ) (b c : List ℕ) → SameBack b c → SameBack (push x b) (x ∷ c)
push_back x b c h =
    ⊎_elim
    (λ e. subst (λ t. SameBack (elim t [ true ↦ [] | false ↦ x ∷ b ]) (x ∷ c)) (sym e) (subst (λ y. SameBack [] (y ∷ c)) (sym (eqb-true x 10 e)) (lf_back c)))
    (λ e. subst (λ t. SameBack (elim t [ true ↦ [] | false ↦ x ∷ b ]) (x ∷ c)) (sym e) (record { line = λ ys. line_more x b c ys h; blank = blank_more x b c h; dot = refl }))
    (cases_Bool (eqb x 10))

pushes_back : (xs b c : List ℕ) → SameBack b c → SameBack (pushes xs b) (reverse xs ++ c)
unfolding pushes
pushes_back [] b c a = a
pushes_back (x ∷ xs) b c a =
    let e : reverse (x ∷ xs) ++ c ≡ reverse xs ++ (x ∷ c) = ap (λ t. t ++ c) (reverse-append (x ∷ []) xs) ∙ append_assoc (reverse xs) (x ∷ []) c in
    subst (SameBack (pushes xs (push x b))) (sym e) (pushes_back xs (push x b) (x ∷ c) (push_back x b c a))

back : (t : List ℕ) (i : ℕ) → SameBack (behind_at t i) (reverse (take i t))
back t i = subst (SameBack (behind_at t i)) (append-nil (reverse (take i t))) (pushes_back (take i t) [] [] (record { line = λ ys. refl; blank = refl; dot = refl }))

-- looking back over the line that is kept is looking back over the whole template
pub lines_suffice : (t : List ℕ) (i : ℕ)
    → (blank_line (behind_at t i) ≡ blank_line (reverse (take i t)))
    × (line_before (behind_at t i) [] ≡ line_before (reverse (take i t)) [])
    × (dot_behind (behind_at t i) ≡ dot_behind (reverse (take i t)))
lines_suffice t i = ((back t i).blank, (back t i).line [], (back t i).dot)

-- a dot is read right before a place exactly if it stands there
pub dot_stands : (t : List ℕ) (i : ℕ) → i ≤ length t → dot_behind (behind_at t i) ≡ is_dotted t i
unfolding pushes
dot_stands t zero h = refl
dot_stands t (suc i) h =
    (back t (suc i)).dot ∙ ap (λ l. dot_behind (reverse l)) (take-suc t i 0 h) ∙ ap dot_behind (reverse-append (take i t) (get_or t i 0 ∷ []))
