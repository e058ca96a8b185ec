-- How the characters of a text end, step by step.
use Rattle.std.proofs.Common.{◌≡◌, ℕ, ◌+◌, ◌<◌, ◌≤◌, Bool, true, false, eqb, List, [], ◌∷◌, length, drop, Some, None, Ok, Err, sym, ap, ◌∙◌, ⊎_elim, arith}
use Rattle.std.proofs.lemmas.List.{length-drop, drop-drop}
use Rattle.std.proofs.lemmas.Bool.{eq-eqb, ne_eqb, cases_eq}
use Rattle.stream.specs.Told.{Ending}
use Rattle.utf8.specs.declared.Char.{Char}
use Rattle.utf8.specs.declared.NotUtf8.{NotUtf8}
use Rattle.utf8.specs.Utf8.{char_at, characters, prefix}
use Rattle.utf8.proofs.Laws.{characters_none, characters_more, char_width, prefix_none, prefix_more}
use Rattle.escape.specs.Characters.{closed}

-- the ending at a place, by the test of the lengths
ending : ℕ → Bool → Ending NotUtf8
ending at b = elim b [ true ↦ Ok tt | false ↦ Err (record { byte = at }) ]

same_test : (w p l m : ℕ) → l ≡ w + m → eqb (w + p) l ≡ eqb p m
same_test w p l m e = ⊎_elim
    (λ h. eq-eqb (w + p) l (omega arith) ∙ sym (eq-eqb p m h))
    (λ h. ne_eqb (w + p) l (λ q. h (omega arith)) ∙ sym (ne_eqb p m h))
    (cases_eq p m)

-- one character more
pub closed_more : (at : ℕ) (xs : List ℕ) (c : Char) → char_at xs ≡ Some c → closed at xs ≡ closed (at + c.width) (drop c.width xs)
unfolding ending
closed_more at xs c e =
    let w = char_width xs c e in
    let p = prefix_more xs c e in
    let l : length xs ≡ c.width + length (drop c.width xs) = simp length-drop (omega arith) in
    let t : eqb (prefix xs) (length xs) ≡ eqb (prefix (drop c.width xs)) (length (drop c.width xs)) =
    ap (λ n. eqb n (length xs)) p ∙ same_test c.width (prefix (drop c.width xs)) (length xs) (length (drop c.width xs)) l in
    let q : at + prefix xs ≡ at + c.width + prefix (drop c.width xs) = omega arith in
    ap (ending (at + prefix xs)) t ∙ ap (λ n. ending n (eqb (prefix (drop c.width xs)) (length (drop c.width xs)))) q

pub closed_none : (at : ℕ) (xs : List ℕ) → char_at xs ≡ None → length xs ≡ 0 → closed at xs ≡ Ok tt
unfolding ending
closed_none at xs e h = ap (ending (at + prefix xs)) (eq-eqb (prefix xs) (length xs) (omega (arith, prefix_none xs e)))

pub closed_bad : (at : ℕ) (xs : List ℕ) → char_at xs ≡ None → 0 < length xs → closed at xs ≡ Err (record { byte = at })
unfolding ending
closed_bad at xs e h =
    let z : at + prefix xs ≡ at = omega (arith, prefix_none xs e) in
    ap (ending (at + prefix xs)) (ne_eqb (prefix xs) (length xs) (λ q. absurd (omega (arith, prefix_none xs e)))) ∙ ap (λ n. ending n false) z

-- at a place of a text

module _ (text : List ℕ) (at : ℕ) where
  pub items_more : (c : Char) → Some c ≡ char_at (drop at text) → characters at (drop at text) ≡ (at, c.code) ∷ characters (at + c.width) (drop (at + c.width) text)
  items_more c e = characters_more at (drop at text) c (sym e) ∙ ap (λ l. (at, c.code) ∷ characters (at + c.width) l) (drop-drop c.width at text)

  pub ending_more : (c : Char) → Some c ≡ char_at (drop at text) → closed (at + c.width) (drop (at + c.width) text) ≡ closed at (drop at text)
  ending_more c e = sym (closed_more at (drop at text) c (sym e) ∙ ap (closed (at + c.width)) (drop-drop c.width at text))

  pub items_none : None ≡ char_at (drop at text) → characters at (drop at text) ≡ []
  items_none e = characters_none at (drop at text) (sym e)

  pub ending_bad : None ≡ char_at (drop at text) → at < length text → closed at (drop at text) ≡ Err (record { byte = at })
  ending_bad e h = closed_bad at (drop at text) (sym e) (simp length-drop (omega arith))

  pub ending_none : None ≡ char_at (drop at text) → length text ≤ at → closed at (drop at text) ≡ Ok tt
  ending_none e h = closed_none at (drop at text) (sym e) (simp length-drop (omega arith))
