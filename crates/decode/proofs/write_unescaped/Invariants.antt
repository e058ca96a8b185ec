use Rattle.decode.specs.Decoding.{unescapes}
use Rattle.escape.specs.Meaning.{means, room}
use Rattle.decode.proofs.Decoded.{Written}
use Rattle.decode.proofs.write_unescaped.Given as goal

abbrev pub invariant-loop-c : goal.invariant-loop-c
invariant-loop-c l = Written (unescapes l.text).points (means l.chars).points l.initial.dst l.dst l.at

abbrev pub decreases-loop-c : goal.decreases-loop-c
decreases-loop-c l = room l.chars
