use Rattle.std.proofs.Common.{◌≡◌, ◌+◌, length}
use lib.Utf8.{encodes}
use Rattle.decode.specs.Decoding.{unescapes}
use Rattle.escape.specs.Meaning.{means, room}
use Rattle.decode.proofs.unescaped_len.Given as goal

-- what is counted and what is still to come make the whole, and it ends as the whole does
abbrev pub invariant-loop-c : goal.invariant-loop-c
invariant-loop-c l = (l.len + length (encodes (means l.chars).points) ≡ length (encodes (unescapes l.text).points)) × ((means l.chars).ending ≡ (unescapes l.text).ending)

abbrev pub decreases-loop-c : goal.decreases-loop-c
decreases-loop-c l = room l.chars
