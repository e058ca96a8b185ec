-- Worked examples of reading and of listing.
use Rattle.std.specs.Prelude.{◌≡◌, ℕ, zero, suc, ◌-◌, List, [], ◌∷◌, map, replicate, take, drop, ℤ, pos, negsuc, Some, None, Option, Ok, Err, codes}
use Rattle.stream.specs.Told.{Ending}
use Rattle.pieces.specs.declared.kind.Kind.{Kind}
use Rattle.pieces.specs.declared.kind.Kind.TheVariants.{Text, VariableStart, VariableEnd, Ident, String, Int, Float, Operator as Operates, White, Cut}
use Rattle.pieces.specs.declared.kind.Operator.TheVariants.{Dot, ParenClose, BraceClose}
use Rattle.pieces.specs.declared.fault.ReadFault.{ReadFault}
use Rattle.pieces.specs.declared.piece.Piece.{Piece}
use Rattle.pieces.specs.Faults.{number_of, backslash_of}
use Rattle.decode.specs.Decoding.{Told, Done, decode}
use Rattle.finders.specs.Defaults.{default_openings}
use Rattle.rules.specs.declared.LexerState.{LexerState}
use Rattle.rules.specs.declared.LexerState.TheVariants.{Template}
use Rattle.rules.specs.Config.{default_config}
use Rattle.rules.specs.Reading.{in_expression}
use Rattle.reader.specs.Views.{View, Told as Answered, unread, left_of, tell}
use Rattle.listings.specs.Listing.{listing}

-- what calls tell one after the other, to the ending: the pieces, and the view behind the last call
pub record Heard : Type 0 where
  pub pieces : List Piece
  pub behind : View

-- no more is told
abbrev pub no_more : View → Heard
no_more v = record { pieces = []; behind = v }

-- a piece, and then what the later calls tell
abbrev pub first : Piece → Heard → Heard
first p h = record { pieces = p ∷ h.pieces; behind = h.behind }

-- what a call tells, and then the later ones; behind an ending there are none
abbrev pub heard_by : (View → Heard) → Answered → Heard
heard_by later t = elim t.answer [
  | Ok o ↦ elim o [ Some p ↦ first p (later t.after) | None ↦ no_more t.after ]
  | Err f ↦ no_more t.after
]

-- what calls tell under the default settings, at most so many of them
unfoldable pub heard : ℕ → View → Heard
heard zero v = no_more v
heard (suc n) v = heard_by (heard n) (tell default_openings default_config v)

-- what all calls tell of a template or an expression, which starts in this state
abbrev pub hear : LexerState → List ℕ → Heard
hear m t = heard (left_of (unread default_config m t)) (unread default_config m t)

-- what a piece is: its kind, the bytes that it means, and its value
pub record Shown : Type 0 where
  pub kind : Kind
  pub means : Told (List ℕ)
  pub value : Option ℕ

-- a string with a backslash means what its text is decoded to, and another piece the bytes of its text
abbrev pub meaning_of : Kind → List ℕ → Told (List ℕ)
meaning_of k xs = elim k [ String ↦ decode xs | _ ↦ Done xs ]

-- a piece of the bytes t
abbrev pub show : List ℕ → Piece → Shown
show t p = record { kind = p.kind; means = meaning_of p.kind (take (p.text.end - p.text.start) (drop p.text.start t)); value = p.value }

-- how a reading ended: it is finished, or failed with a number and for a bad escape a backslash; or no ending was told
pub data Outcome : Type 0 where
  Finished : Outcome
  Failed : ℕ → Option ℕ → Outcome
  Untold : Outcome

abbrev pub outcome : Option (Ending ReadFault) → Outcome
outcome None = Untold
outcome (Some (Ok u)) = Finished
outcome (Some (Err f)) = Failed (number_of f.kind) (backslash_of f.kind)

-- what a reading tells: its pieces, how it ended, and the balance of brackets at the end
pub record Summary : Type 0 where
  pub pieces : List Shown
  pub outcome : Outcome
  pub balance : ℤ

abbrev pub summary : List ℕ → Heard → Summary
summary t h = record { pieces = map (show t) h.pieces; outcome = outcome h.behind.told; balance = h.behind.balance }

-- an example: what a reading tells that starts in a state, or what the listing of a template is
pub data Example : Type 0 where
  Reads : LexerState → List ℕ → Summary → Example
  Lists : List ℕ → List ℕ → Example

-- a piece with no value that means these bytes, and one with a value
abbrev pub piece : Kind → List ℕ → Shown
piece k xs = record { kind = k; means = Done xs; value = None }

abbrev pub valued : Kind → List ℕ → ℕ → Shown
valued k xs n = record { kind = k; means = Done xs; value = Some n }

-- a reading of these pieces that is finished at a balance, and one that fails
abbrev pub finished : List Shown → ℤ → Summary
finished ps b = record { pieces = ps; outcome = Finished; balance = b }

abbrev pub failed : List Shown → ℕ → ℕ → Summary
failed ps n i = record { pieces = ps; outcome = Failed n (Some i); balance = pos 0 }

-- the examples
abbrev pub examples : List Example
examples =
    Lists (codes "a{{ b }}") (codes "text 1:0:0 1:1:1\nvar-start 1:1:1 1:3:3\nwhite 1:3:3 1:4:4\nident 1:4:4 1:5:5\nwhite 1:5:5 1:6:6\nvar-end 1:6:6 1:8:8\nend 1:8:8 1:8:8\n") ∷
    Lists [] (codes "end 1:0:0 1:0:0\n") ∷
    -- a fault, a template that is not UTF-8, and one that has too many bytes
    Lists (codes "{{ \"ab\\ud83d\" }}") (codes "var-start 1:0:0 1:2:2\nwhite 1:2:2 1:3:3\nfault 15 1:3:3 1:13:13\n") ∷
    Lists (97 ∷ 0xC3 ∷ []) (codes "refused 6 1\n") ∷
    Lists (replicate 65537 97) (codes "refused 5\n") ∷
    -- the empty template
    Reads Template [] (finished [] (pos 0)) ∷
    -- two integers and one float
    Reads Template (codes "{{ x.1.0 }}") (finished (
    piece VariableStart (codes "{{") ∷ piece White (codes " ") ∷ piece Ident (codes "x") ∷ piece (Operates Dot) (codes ".") ∷ valued Int (codes "1") 1
    ∷ piece (Operates Dot) (codes ".") ∷ valued Int (codes "0") 0 ∷ piece White (codes " ") ∷ piece VariableEnd (codes "}}") ∷ []) (pos 0)) ∷
    Reads Template (codes "{{ 1.0 }}") (finished (
    piece VariableStart (codes "{{") ∷ piece White (codes " ") ∷ piece Float (codes "1.0") ∷ piece White (codes " ") ∷ piece VariableEnd (codes "}}") ∷ []) (pos 0)) ∷
    -- a tag that is not closed, since three brackets are
    Reads Template (codes "{{ ) }}") (finished (
    piece VariableStart (codes "{{") ∷ piece White (codes " ") ∷ piece (Operates ParenClose) (codes ")") ∷ piece White (codes " ")
    ∷ piece (Operates BraceClose) (codes "}") ∷ piece (Operates BraceClose) (codes "}") ∷ []) (negsuc 2)) ∷
    -- the cut
    Reads Template (codes "a\r\n") (finished (piece Text (codes "a") ∷ piece Cut (codes "\r\n") ∷ []) (pos 0)) ∷
    -- bad escapes, and a pair of surrogates
    Reads in_expression (codes "\"\\400\"") (failed [] 15 0) ∷
    Reads in_expression (codes "\"\\x+4\"") (failed [] 15 0) ∷
    Reads in_expression (codes "\"\\ud83d\\ude00\"") (finished (valued String (0xF0 ∷ 0x9F ∷ 0x98 ∷ 0x80 ∷ []) 4 ∷ []) (pos 0)) ∷
    []

-- an answer: what a reading tells, or a listing
pub data Answer : Type 0 where
  Read : Summary → Answer
  Listed : List ℕ → Answer

-- the answer by the rules
abbrev pub actual : Example → Answer
actual (Reads m t s) = Read (summary t (hear m t))
actual (Lists t xs) = Listed (listing t)

-- the answer that the example has
abbrev pub expected : Example → Answer
expected (Reads m t s) = Read s
expected (Lists t xs) = Listed xs

-- each example has its answer: one equation of all answers
abbrev pub ExamplesHold : Type 0
ExamplesHold = map actual examples ≡ map expected examples
