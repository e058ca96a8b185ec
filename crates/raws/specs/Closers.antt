-- Where the tag stands that closes a raw block.
use Rattle.std.specs.Prelude.{◌≡◌, ℕ, ◌+◌, ◌<◌, ◌≤◌, true, List, [], ◌∷◌, ◌++◌, length, take, drop, Some, None, Ok, Err, Option, slice_index}
use Rattle.spaces.specs.Lines.{is_blank}
use Rattle.rules.specs.declared.EndRaw.{EndRaw}
use Rattle.rules.specs.declared.Pending.TheVariants.{RawClose}
use Rattle.rules.specs.declared.whitespace.Whitespace.{Whitespace}
use Rattle.rules.specs.declared.whitespace.Whitespace.TheVariants.{Default, Preserve, Remove}
use Rattle.rules.specs.Config.{Config}
use Rattle.rules.specs.State.{Verdict}
use Rattle.rules.specs.Texts.{Basic, Far, endraw_name, closer_at}

-- the tag has more bytes than its name, and lies in xs
abbrev pub Within : ℕ → List ℕ → Option Basic → Type 0
Within n xs None = Unit {0}
Within n xs (Some t) = (n ≤ t.0) × (t.0 ≤ length xs)

-- the closing tag has bytes, and lies in xs
abbrev pub TagWithin : List ℕ → Option EndRaw → Type 0
TagWithin xs None = Unit {0}
TagWithin xs (Some r) = (0 < r.len) × (r.len ≤ length xs)

-- the closing tag that was found lies in xs
abbrev pub FarWithin : List ℕ → Option Far → Type 0
FarWithin xs None = Unit {0}
FarWithin xs (Some t) = (0 < t.1.len) × (t.0 + t.1.len ≤ length xs)

-- each of the bytes is a blank
abbrev pub Blanks : List ℕ → Type 0
Blanks bs = (k : ℕ) → k < length bs → is_blank (slice_index bs k) ≡ true

-- the bytes of a sign
abbrev pub sign_text : Whitespace → List ℕ
sign_text Default = []
sign_text Preserve = 43 ∷ []
sign_text Remove = 45 ∷ []

-- the bytes are blanks, the name, blanks, the sign and the end
abbrev pub Spelt : List ℕ → List ℕ → Whitespace → List ℕ → Type 0
Spelt name end g ys = (b : List ℕ) × (c : List ℕ) × Blanks b × Blanks c × (ys ≡ b ++ (name ++ (c ++ (sign_text g ++ end))))

-- the bytes of the tag are spelt so
abbrev pub TagSpelt : List ℕ → List ℕ → List ℕ → Option Basic → Type 0
TagSpelt name end xs None = Unit {0}
TagSpelt name end xs (Some t) = Spelt name end t.1 (take t.0 xs)

-- the bytes of the closing tag: the block start, a sign, and `endraw` spelt so
abbrev pub CloserSpelt : Config → List ℕ → Option EndRaw → Type 0
CloserSpelt s xs None = Unit {0}
CloserSpelt s xs (Some r) = (ys : List ℕ) × (take r.len xs ≡ s.block_start ++ (sign_text r.start_sign ++ ys)) × Spelt endraw_name s.block_end r.end_sign ys

-- a closing tag stands at the place k of xs
abbrev pub Closes : Config → List ℕ → ℕ → EndRaw → Type 0
Closes s xs k r = closer_at s (drop k xs) ≡ Some r

-- the first place of xs where a closing tag stands, and the tag; of None, that none stands anywhere
abbrev pub FirstCloser : Config → List ℕ → Option Far → Type 0
FirstCloser s xs None = (k : ℕ) (r : EndRaw) → Closes s xs k r → ⊥
FirstCloser s xs (Some t) = Closes s xs t.0 t.1 × ((k : ℕ) (r : EndRaw) → k < t.0 → Closes s xs k r → ⊥)

-- a raw text ends at the first closing tag, which waits behind it; it is a fault exactly if there is none
abbrev pub RawEnds : Config → List ℕ → Verdict → Type 0
RawEnds s xs (Ok (Some p)) = (r : EndRaw) × (p.pending ≡ RawClose r.len r.end_sign) × FirstCloser s xs (Some (p.len, r))
RawEnds s xs (Ok None) = ⊥
RawEnds s xs (Err f) = FirstCloser s xs None
