-- Delimiters are UTF-8.
use Rattle.std.proofs.Common.{◌≡◌, ℕ, ◌≤◌, List, [], ◌++◌, length, take, IsUtf8, sym, refl, ap, ◌∙◌, arith, length-take}
use Rattle.std.proofs.lemmas.List.{take_at}
use Rattle.utf8.specs.Utf8.{prefix, prefix_after}
use Rattle.utf8.proofs.Laws.{whole_utf8}

pub text_none : prefix [] ≡ 0
unfolding prefix_after
text_none = refl

-- bytes that were written to the front are what is read there
pub text_front : (xs ys rest : List ℕ) → xs ≡ ys → prefix ys ≡ length ys → prefix (take (length ys) (xs ++ rest)) ≡ length ys
text_front xs ys rest e p = ap (λ l. prefix (take (length ys) (l ++ rest))) e ∙ ap prefix (take_at ys rest (length ys) refl) ∙ p

-- the first n bytes, of which there are so many, are UTF-8 where the well-formed prefix has n
pub text_utf8 : (xs : List ℕ) (n : ℕ) → n ≤ length xs → prefix (take n xs) ≡ n → IsUtf8 (take n xs)
text_utf8 xs n h e = let l : length (take n xs) ≡ n = simp length-take (omega arith) in whole_utf8 (take n xs) (e ∙ sym l)
