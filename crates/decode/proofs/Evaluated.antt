-- The examples, by evaluation.
use Rattle.std.proofs.Common.{refl}
use lib.Utf8.{encode}
use Rattle.utf8.specs.Utf8.{table, fits, width_by, prefix_after, characters_after}
use Rattle.escape.specs.Escapes.{meant, hex_value, hex_from, octal_from, unescaped_from}
use Rattle.decode.specs.Examples.{ExamplesHold}

pub examples_hold : ExamplesHold
unfolding encode table fits width_by prefix_after characters_after meant hex_value hex_from octal_from unescaped_from
examples_hold = (refl, (refl, (refl, (refl, (refl, (refl, (refl, (refl, (refl, (refl, (refl, (refl, (refl, (refl, (refl, tt)))))))))))))))
