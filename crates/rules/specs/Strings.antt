-- Strings.
use Rattle.std.specs.Prelude.{ℕ, suc, ◌+◌, Bool, true, false, List, [], ◌∷◌, length, take, Some, None, Ok, Err, Option, Result, ◌==◌}
use Rattle.byte_search.specs.Search.{first_in, further}
use Rattle.escape.specs.declared.fault.DecodeFault.{DecodeFault}
use Rattle.decode.specs.Decoding.{decoded_len}
use Rattle.pieces.specs.declared.kind.Kind.TheVariants.{Str, String}
use Rattle.pieces.specs.declared.fault.FaultKind.TheVariants.{UnendedString, Escape}
use Rattle.rules.specs.declared.LexerState.{LexerState}
use Rattle.rules.specs.declared.Pending.TheVariants.{Nothing}
use Rattle.rules.specs.State.{told, Verdict, fault}

-- how far the next quote like q is that no backslash escapes; with `true` the first byte is escaped
unfoldable pub quote_end : ℕ → Bool → List ℕ → Option ℕ
quote_end q escaped [] = None
quote_end q true (x ∷ xs) = further (quote_end q false xs)
quote_end q false (x ∷ xs) = elim (x == q) [ true ↦ Some 0 | false ↦ further (quote_end q (x == 92) xs) ]

-- a string whose text of n bytes was decoded or refused
abbrev pub decoded : ℕ → LexerState → Result ℕ DecodeFault → Verdict
decoded n m (Ok len) = told String (n + 2) 1 (n + 1) (Some len) m Nothing
decoded n m (Err f) = fault (Escape f) (n + 2)

-- a string of this text: with a backslash the decoder decides
abbrev pub string_of : LexerState → List ℕ → Verdict
string_of m xs =
    elim (first_in (92 ∷ []) xs) [
      | None ↦ told Str (length xs + 2) 1 (length xs + 1) None m Nothing
      | Some k ↦ decoded (length xs) m (decoded_len xs)
    ]

-- the string that the quote q opens, with these bytes behind the quote
unfoldable pub string : ℕ → LexerState → List ℕ → Verdict
string q m xs = elim (quote_end q false xs) [ None ↦ fault UnendedString (suc (length xs)) | Some n ↦ string_of m (take n xs) ]
