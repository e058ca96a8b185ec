use Rattle.std.proofs.Common.{refl, ap}
use Rattle.std.proofs.lemmas.Bool.{both_ways}
use Rattle.std.specs.Option.{is_some}
use Rattle.ranged.specs.Ranges.{first_too_early, too_early_from}
use Rattle.ranged.proofs.Early.{none_rising}
use Rattle.spaces.specs.Spaces.{white_space, begins, ends}
use Rattle.spaces.proofs.Sets.{white_agrees}
use Rattle.spaces.proofs.white_space.Goals as goal

pub prove-unreachable-requires : goal.prove-unreachable-requires
unfolding first_too_early too_early_from
prove-unreachable-requires c = both_ways (is_some c.first_too_early.result) (ap is_some c.first_too_early.ensures.value) c.if-prove.ensures

pub returns : goal.returns
unfolding first_too_early too_early_from
returns c = record { value = refl; rises = refl; rising = none_rising begins ends white_space refl; agrees = white_agrees }
