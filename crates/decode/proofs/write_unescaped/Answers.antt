use Rattle.std.proofs.Common.{arith}
use Rattle.escape.specs.Meaning.{means}
use Rattle.decode.specs.Decoding.{unescapes}
use Rattle.decode.proofs.Decoded.{written_more}
use Rattle.decode.proofs.write_unescaped.Goals as goal

pub loop-c-preserved : goal.loop-c-preserved
loop-c-preserved c =
    let t = rw c.in-Ok-Some.field-0-is at (c.in-Ok-Some.ensures.tells tt) in
    rw c.put-at.ensures.value (written_more (unescapes c.args.text.now).points (means c.next.new.self).points c.args.dst.now c.loop-c.dst c.put-at.new.dst c.loop-c.at c.in-Ok-Some.c (rw t.0 at c.loop-c.invariant) (omega (arith, c.requires)) c.put-at.ensures.after)
