-- Chunks, and tests that are gathered place by place.
use Rattle.std.proofs.Common.{◌≡◌, ℕ, zero, suc, ◌+◌, ◌-◌, ◌*◌, ◌/◌, ◌<◌, ◌≤◌, Bool, true, false, MatchBool, MatchOption, Option, Some, None, unwrap_or, refl, List, [], length, get_or, drop, Decides, sym, ap, ◌∙◌, subst, suc-mul, arith}
use Rattle.std.specs.Simd.{first_chunks}
use Rattle.std.specs.List.{AllWithin, HoldsAt}
use Rattle.std.proofs.lemmas.List.{get_or-take, get_or-drop, length-take-le, length-drop}
use Rattle.std.proofs.lemmas.Bool.{false≢true}
use Rattle.byte_search.specs.Search.{Among, HoldsAny}

-- a byte of a chunk is a byte of the whole
pub chunked_at : (n k : ℕ) (xs : List ℕ) (j m : ℕ) → j < k → m < n → get_or (get_or (first_chunks n k xs) j []) m 0 ≡ get_or xs (j * n + m) 0
chunked_at n zero xs j m h l = absurd (omega arith)
chunked_at n (suc k) xs zero m h l = let z : 0 * n + m ≡ m = omega arith in get_or-take n xs m 0 l ∙ ap (λ i. get_or xs i 0) (sym z)
chunked_at n (suc k) xs (suc j) m h l =
    let z : n + (j * n + m) ≡ suc j * n + m = omega arith in
    chunked_at n k (drop n xs) j m (omega arith) l ∙ get_or-drop n xs (j * n + m) 0 ∙ ap (λ i. get_or xs i 0) z

-- whole chunks have the full length
pub chunked_len : (n k : ℕ) (xs : List ℕ) (j : ℕ) → j < k → k * n ≤ length xs → length (get_or (first_chunks n k xs) j []) ≡ n
chunked_len n zero xs j h l = absurd (omega arith)
chunked_len n (suc k) xs zero h l = length-take-le n xs (omega (arith, suc-mul k n))
chunked_len n (suc k) xs (suc j) h l = chunked_len n k (drop n xs) j (omega arith) (omega (arith, suc-mul k n, length-drop n xs))

-- whether a byte of `ns` stands in `xs` is whether a place of `xs` holds one of `ns`
pub any_holds : (ns xs : List ℕ) (r : Bool) → MatchBool r ((j : ℕ) × (j < length ns) × HoldsAt (Among xs) ns j) (AllWithin (λ n. Among xs n → ⊥) ns 0 (length ns)) → Decides r ((k : ℕ) × HoldsAny ns xs k)
any_holds ns xs true (j, h, f) = let a = f 0 in ((λ e. (a.0, (a.1, (j, h, sym a.2)))), (λ p. refl))
any_holds ns xs false n = ((λ e. absurd (false≢true e)), (λ p. absurd (n p.1.1.0 0 (omega arith) p.1.1.1 (p.0, p.1.0, sym p.1.1.2))))

module _ (xs : List ℕ) (cs : List (List ℕ)) (e : cs ≡ first_chunks 32 (length xs / 32) xs) (n : length cs ≡ length xs / 32) (ns : List ℕ) where
  -- the chunk has one of `ns`
  abbrev pub HasAny : List ℕ → Type 0
  HasAny ch = (k : ℕ) × HoldsAny ns ch k

  chunk_len : (i : ℕ) → i < length cs → length (get_or cs i []) ≡ 32
  chunk_len i h = ap (λ t. length (get_or t i [])) e ∙ chunked_len 32 (length xs / 32) xs i (omega arith) (omega arith)

  chunk_byte : (i : ℕ) → i < length cs → (m : ℕ) → m < 32 → get_or (get_or cs i []) m 0 ≡ get_or xs (i * 32 + m) 0
  chunk_byte i h m l = ap (λ t. get_or (get_or t i []) m 0) e ∙ chunked_at 32 (length xs / 32) xs i m (omega arith) l

  -- chunks that have none of `ns`
  clear_before : (i : ℕ) → i ≤ length cs → AllWithin (λ ch. HasAny ch → ⊥) cs 0 i → (k : ℕ) → k < i * 32 → HoldsAny ns xs k → ⊥
  clear_before i h a k l p =
      let j = k / 32 in
      let b : j < i = omega arith in
      let m : k - j * 32 < 32 = omega arith in
      let z : j * 32 + (k - j * 32) ≡ k = omega arith in
      let y : get_or (get_or cs j []) (k - j * 32) 0 ≡ get_or xs k 0 = chunk_byte j (omega arith) (k - j * 32) m ∙ ap (λ t. get_or xs t 0) z in
      a j [] (omega arith) b (k - j * 32, (omega (arith, chunk_len j), (p.1.0, p.1.1, p.1.2 ∙ sym y)))

  -- a chunk that has one of `ns`
  found_here : (i : ℕ) → i < length cs → HasAny (get_or cs i []) → (k : ℕ) × (i * 32 ≤ k) × (k < i * 32 + 32) × HoldsAny ns xs k
  found_here i h p =
      let l : p.0 < 32 = omega (arith, chunk_len i h, p.1.0) in
      (i * 32 + p.0, omega arith, omega arith, (omega arith, (p.1.1.0, p.1.1.1, p.1.1.2 ∙ chunk_byte i h p.0 l)))

  -- the bytes before the first chunk that has one of `ns`
  abbrev pub Cleared : ℕ → Type 0
  Cleared m = (m ≤ length xs) × ((k : ℕ) → k < m → HoldsAny ns xs k → ⊥) × (m + 32 ≤ length xs → (k : ℕ) × (m ≤ k) × (k < m + 32) × HoldsAny ns xs k)

  pub chunks_cleared : (r : Option ℕ) (m : ℕ) → m ≡ unwrap_or r (length cs) → MatchOption r (AllWithin (λ ch. HasAny ch → ⊥) cs 0 (length cs)) (λ i. (i < length cs) × HoldsAt HasAny cs i × AllWithin (λ ch. HasAny ch → ⊥) cs 0 i) → Cleared (m * 32)
  chunks_cleared None m e a = subst (λ i. Cleared (i * 32)) (sym e) (omega arith, clear_before (length cs) (omega arith) a, λ h. absurd (omega arith))
  chunks_cleared (Some i) m e f = subst (λ i. Cleared (i * 32)) (sym e) (omega (arith, f.0), clear_before i (omega (arith, f.0)) f.2, λ h. found_here i f.0 (f.1 []))
