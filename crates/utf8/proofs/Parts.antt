-- Parts of well-formed bytes.
use Rattle.std.proofs.Common.{◌≡◌, ℕ, ◌+◌, ◌-◌, ◌<◌, List, length, get_or, take, drop, IsUtf8, subst, arith}
use Rattle.std.proofs.lemmas.Str.{IsUtf8-between, IsCharBoundary-before_ascii, IsCharBoundary-after_ascii}
use Rattle.utf8.specs.Utf8.{prefix}
use Rattle.utf8.proofs.Laws.{whole_utf8, utf8_whole}

-- an ASCII byte is a character by itself, so what stands between two of them is well formed: the k bytes behind the place i
pub between_ascii : (t : List ℕ) (i k : ℕ) → prefix t ≡ length t → get_or t i 0 < 128 → i + 1 + k < length t → get_or t (i + 1 + k) 0 < 128
    → prefix (take k (drop (i + 1) t)) ≡ length (take k (drop (i + 1) t))
between_ascii t i k w a l b =
    let u = whole_utf8 t w in
    let z : i + 1 + k - (i + 1) ≡ k = omega arith in
    let v = IsUtf8-between t (i + 1) (i + 1 + k) u (omega arith) (IsCharBoundary-after_ascii t i u (omega arith) a) (IsCharBoundary-before_ascii t (i + 1 + k) l b) in
    utf8_whole (take k (drop (i + 1) t)) (subst (λ n. IsUtf8 (take n (drop (i + 1) t))) z v)
