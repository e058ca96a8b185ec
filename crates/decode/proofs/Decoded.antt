-- A loop over what a text means.
use Rattle.std.proofs.Common.{◌≡◌, ℕ, ◌+◌, ◌≤◌, true, false, eqb, List, ◌∷◌, ◌++◌, length, take, drop, None, Ok, Err, IsUtf8, sym, refl, ap, ◌∙◌, arith}
use lib.Utf8.{encode, encodes}
use Rattle.std.proofs.lemmas.List.{length-append, length-take, drop-drop, append_assoc, take_at, drop_at}
use Rattle.stream.specs.Told.{Ending}
use Rattle.escape.specs.declared.fault.DecodeFault.{DecodeFault}
use Rattle.utf8.specs.Utf8.{prefix}
use Rattle.escape.specs.Characters.{closed}
use Rattle.escape.specs.Escapes.{Unescaped}
use Rattle.escape.specs.Meaning.{Tells}
use Rattle.decode.specs.Decoding.{Refused, answer, answer_of, unescapes, decode, length_of, IsText}
use Rattle.decode.proofs.Sizes.{decoded_few, decoded_utf8}

-- of w, these many bytes are counted and m is still to come
abbrev pub Counted : Unescaped → Unescaped → ℕ → Type 0
Counted w m len = (len + length (encodes m.points) ≡ length (encodes w.points)) × (m.ending ≡ w.ending)

-- where nothing is left and the text is finished, all is counted
pub counted_length : (w m n : Unescaped) (len : ℕ) → Counted w m len → Tells m (Ok None) n → Ok len ≡ length_of w
counted_length w m n len i t =
    let all : length (encodes w.points) ≡ len = omega (arith, i.0, ap (λ l. length (encodes l)) t.0) in
    ap Ok (sym all) ∙ sym (ap (λ x. length_of (record { points = w.points; ending = x })) (sym i.1 ∙ t.1))

-- of the code points ws, those before ms are written to the front of ds, which is as old behind them
pub record Written (ws ms old ds : List ℕ) (at : ℕ) : Type 0 where
  pub count : at + length (encodes ms) ≡ length (encodes ws)
  pub front : take at ds ++ encodes ms ≡ encodes ws
  pub back : drop at ds ≡ drop at old

-- one code point more is written
module _ (ws ns old ds es : List ℕ) (at c : ℕ) (i : Written ws (c ∷ ns) old ds at) (room : length (encodes ws) ≤ length ds) (p : es ≡ take at ds ++ (encode c ++ drop (at + length (encode c)) ds)) where
  size : length (encodes (c ∷ ns)) ≡ length (encode c) + length (encodes ns)
  size = length-append (encode c) (encodes ns)

  ends : length (take at ds ++ encode c) ≡ at + length (encode c)
  ends = simp (length-append, length-take) (omega (arith, i.count, size))

  parts : es ≡ (take at ds ++ encode c) ++ drop (at + length (encode c)) ds
  parts = p ∙ sym (append_assoc (take at ds) (encode c) (drop (at + length (encode c)) ds))

  pub written_more : Written ws ns old es (at + length (encode c))
  written_more = record {
    count = omega (arith, i.count, size);
    front = ap (λ l. l ++ encodes ns) (ap (take (at + length (encode c))) parts ∙ take_at (take at ds ++ encode c) (drop (at + length (encode c)) ds) (at + length (encode c)) ends)
        ∙ append_assoc (take at ds) (encode c) (encodes ns) ∙ i.front;
    back = ap (drop (at + length (encode c))) parts ∙ drop_at (take at ds ++ encode c) (drop (at + length (encode c)) ds) (at + length (encode c)) ends
        ∙ sym (drop-drop (length (encode c)) at ds) ∙ ap (drop (length (encode c))) i.back ∙ drop-drop (length (encode c)) at old;
  }

-- what is decoded is text
text_by : (xs : List ℕ) (u : Unescaped) (e : Ending DecodeFault) → u.ending ≡ e → IsUtf8 (encodes u.points) → length (encodes u.points) ≤ length xs → IsText (answer u.points e) xs
text_by xs u (Ok x) h t l = (t, l)
text_by xs u (Err f) h t l = tt

pub decoded_text : (xs : List ℕ) → IsText (decode xs) xs
decoded_text xs =
    elim (eqb (prefix xs) (length xs)) as (λ b. IsText (elim b [ true ↦ answer_of (unescapes xs) | false ↦ Refused 6 (prefix xs) ]) xs) [
      | true ↦ text_by xs (unescapes xs) (unescapes xs).ending refl (decoded_utf8 xs (closed 0 xs)) (decoded_few xs (closed 0 xs))
      | false ↦ tt
    ]
