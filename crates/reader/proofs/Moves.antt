-- A reader that moves over bytes.
use Rattle.std.proofs.Common.{◌≡◌, ℕ, ◌+◌, ◌≤◌, min, List, length, take, drop, ℤ, pos, negsuc, sym, refl, ap, ◌∙◌, arith}
use Rattle.places.specs.declared.Place.{Place}
use Rattle.places.specs.Places.{beyond, capped, offset_cap}
use Rattle.places.proofs.Advances.{capped_beyond}
use Rattle.pieces.specs.declared.piece.Piece.{Piece}
use Rattle.pieces.specs.declared.piece.TextRange.{TextRange}
use Rattle.reader.specs.Limits.{max_len}
use Rattle.rules.specs.declared.LexerState.{LexerState}
use Rattle.rules.specs.declared.LexerState.TheVariants.{Template, Inside, Over}
use Rattle.rules.specs.At.{place_at}
use Rattle.rules.specs.Reading.{Part, balance_at}
use Rattle.rules.specs.Shapes.{level, magnitude}
use Rattle.rules.specs.Told.{placed}
use Rattle.rules.proofs.Whole.{place_on, place_offset}

-- the place behind some bytes more, as it is told
pub advanced : (t : List ℕ) (i k : ℕ) (ys zs : List ℕ) (p q : Place) → p ≡ capped (place_at t i) → ys ≡ drop i t → zs ≡ take k ys → q ≡ capped (beyond zs p) → q ≡ capped (place_at t (i + k))
advanced t i k ys zs p q h a b e =
    e
    ∙ ap (λ x. capped (beyond zs x)) h
    ∙ capped_beyond zs (place_at t i)
    ∙ ap (λ l. capped (beyond l (place_at t i))) (b ∙ ap (take k) a)
    ∙ ap capped (place_on t i k)

range_told : (t : List ℕ) (i a b : ℕ) → i ≤ length t → a ≤ b → i + b ≤ max_len
    → ◌≡◌ {A = TextRange} (record { start = i + a; end = i + b }) (record { start = min ((place_at t i).offset + a) offset_cap; end = min ((place_at t i).offset + b) offset_cap })
range_told t i a b h l k =
    let o = place_offset t i h in
    let x : i + a ≡ min ((place_at t i).offset + a) offset_cap = omega arith in
    let y : i + b ≡ min ((place_at t i).offset + b) offset_cap = omega arith in
    ap (λ n. record { start = n; end = i + b }) x ∙ ap (λ n. record { start = min ((place_at t i).offset + a) offset_cap; end = n }) y

-- a piece from one place to another is told as the rules place it
pub told_at : (t : List ℕ) (i j : ℕ) (x : Part) (p q : Place) (r : TextRange) → i ≤ length t → x.from ≤ x.to → i + x.to ≤ max_len → beyond x.bytes (place_at t i) ≡ place_at t j
    → p ≡ capped (place_at t i) → q ≡ capped (place_at t j) → r ≡ record { start = i + x.from; end = i + x.to }
    → ◌≡◌ {A = Piece} (record { kind = x.kind; span = record { start = p; end = q }; text = r; value = x.value }) (placed (place_at t i) x)
told_at t i j x p q r h l k b e f g =
    ap (λ s. record { kind = x.kind; span = record { start = s; end = q }; text = r; value = x.value }) e
    ∙ ap (λ s. record { kind = x.kind; span = record { start = capped (place_at t i); end = s }; text = r; value = x.value }) (f ∙ ap capped (sym b))
    ∙ ap (λ s. record { kind = x.kind; span = record { start = capped (place_at t i); end = capped (beyond x.bytes (place_at t i)) }; text = s; value = x.value }) (g ∙ range_told t i x.from x.to h l k)

-- the balance stays within the bytes read
pub balance_level : (b c : ℤ) (m : LexerState) (i n : ℕ) → c ≡ balance_at b m → magnitude b ≤ i → level m ≤ i + n → magnitude c ≤ i + n
balance_level b c Template i n e h l = omega (arith, ap magnitude e)
balance_level b c (Inside k a) i n e h l = omega (arith, ap magnitude e)
balance_level b c Over i n e h l = omega (arith, ap magnitude e)

-- the balance is that of the tag
pub balance_agrees : (b : ℤ) (m : LexerState) → balance_at (balance_at b m) m ≡ balance_at b m
balance_agrees b Template = refl
balance_agrees b (Inside k a) = refl
balance_agrees b Over = refl

pub balance_flat : (m : LexerState) → level m ≡ 0 → balance_at (pos 0) m ≡ pos 0
balance_flat Template h = refl
balance_flat (Inside k (pos n)) h = ap pos h
balance_flat (Inside k (negsuc n)) h = absurd (omega arith)
balance_flat Over h = refl
