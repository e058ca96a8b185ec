use Rattle.std.proofs.Common.{ap, ◌∙◌, arith}
use Rattle.finder.specs.declared.StartMarker.TheVariants.{Variable}
use Rattle.syntax.specs.Delims.{bytes_of}
use Rattle.syntax.specs.Names.{markers}
use Rattle.syntax.specs.Openings.{setting_of}
use Rattle.finders.specs.Meant.{openings_in}
use Rattle.finders.proofs.Entries.{enters_more, enters_all}
use Rattle.finders.proofs.patterns.Patterns.of.Goals as goal

pub loop-marker-preserved : goal.loop-marker-preserved
loop-marker-preserved c =
    let t = setting_of c.args.settings.now in
    let d = c.entry-in-loop-marker in (
      omega (arith, c.enter_opening.ensures.count),
      enters_more t markers c.loop-marker.marker-index Variable (openings_in c.loop-marker.patterns) (openings_in c.enter_opening.new.self) (bytes_of d.result.now) c.loop-marker-test.true
          (d.ensures.value ∙ ap t c.from.ensures) c.enter_opening.ensures.value c.loop-marker.invariant.1,
    )

pub returns : goal.returns
returns c = enters_all (setting_of c.args.settings.now) markers c.loop-marker.marker-index (openings_in c.loop-marker.patterns) c.loop-marker-test.false c.loop-marker.invariant.1
