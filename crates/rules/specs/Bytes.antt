-- Bytes: signs, names, runs, and the line that was read so far.
-- As names, `behind` is the bytes that were read before a place, the newest first, and `ahead` those to come.
-- In prose we say "before" of what was read and "behind" of what follows: a sign behind an opening comes after it.
use Rattle.std.specs.Prelude.{◌≡◌, ℕ, suc, ◌<◌, ◌≤◌, Bool, true, false, not, ◌&&◌, ◌||◌, List, [], ◌∷◌, length, take, ◌==◌, nat_le, slice_index}
use Rattle.finder.specs.Finding.{is_line_end}
use Rattle.rules.specs.declared.whitespace.Whitespace.{Whitespace}
use Rattle.rules.specs.declared.whitespace.Whitespace.TheVariants.{Default, Preserve, Remove}

-- from low to high
abbrev pub within : ℕ → ℕ → ℕ → Bool
within low high b = nat_le low b && nat_le b high

-- 0 to 9
abbrev pub is_digit : ℕ → Bool
is_digit b = within 48 57 b

-- an ASCII letter
abbrev pub is_letter : ℕ → Bool
is_letter b = within 97 122 b || within 65 90 b

-- what leads an identifier: an ASCII letter or `_`
abbrev pub leads_name : ℕ → Bool
leads_name b = is_letter b || b == 95

-- what an identifier is made of: ASCII letters, digits and `_`
abbrev pub is_name_part : ℕ → Bool
is_name_part b = leads_name b || is_digit b

-- neither CR nor LF
abbrev pub in_line : ℕ → Bool
in_line b = not (is_line_end b)

-- `-` or `+`
abbrev pub is_sign : ℕ → Bool
is_sign b = b == 45 || b == 43

-- what a byte says as a sign
abbrev pub sign_of : ℕ → Whitespace
sign_of b = elim (b == 45) [ true ↦ Remove | false ↦ elim (b == 43) [ true ↦ Preserve | false ↦ Default ] ]

-- the sign at the front, if there is one
abbrev pub sign_at : List ℕ → Whitespace
sign_at [] = Default
sign_at (x ∷ xs) = sign_of x

-- how many bytes a sign has
abbrev pub sign_len : Whitespace → ℕ
sign_len Default = 0
sign_len Preserve = 1
sign_len Remove = 1

-- how many bytes at the front pass the test
unfoldable pub run : (ℕ → Bool) → List ℕ → ℕ
run p [] = 0
run p (x ∷ xs) = elim (p x) [ true ↦ suc (run p xs) | false ↦ 0 ]

-- the first n bytes pass the test, and the byte behind them, if any, does not
abbrev pub LongestRun : (ℕ → Bool) → List ℕ → ℕ → Type 0
LongestRun p xs n = (n ≤ length xs) × ((k : ℕ) → k < n → p (slice_index xs k) ≡ true) × (n < length xs → p (slice_index xs n) ≡ false)

-- one byte more was read: of the bytes read those since the last LF are kept, the newest first
abbrev pub push : ℕ → List ℕ → List ℕ
push b behind = elim (b == 10) [ true ↦ [] | false ↦ b ∷ behind ]

-- some bytes more were read
unfoldable pub pushes : List ℕ → List ℕ → List ℕ
pushes [] behind = behind
pushes (x ∷ xs) behind = pushes xs (push x behind)

-- what is kept of the bytes before the place i of xs
abbrev pub behind_at : List ℕ → ℕ → List ℕ
behind_at xs i = pushes (take i xs) []

-- the bytes back to CR, LF or the start, in reading order, and then those of xs
unfoldable pub line_before : List ℕ → List ℕ → List ℕ
line_before [] xs = xs
line_before (b ∷ bs) xs = elim (is_line_end b) [ true ↦ xs | false ↦ line_before bs (b ∷ xs) ]

-- the last byte is b
unfoldable pub last_is : ℕ → List ℕ → Bool
last_is b [] = false
last_is b (x ∷ []) = x == b
last_is b (x ∷ (y ∷ ys)) = last_is b (y ∷ ys)
