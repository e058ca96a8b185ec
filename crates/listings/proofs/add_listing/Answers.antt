use Rattle.std.proofs.Common.{◌≡◌, ap, ◌∙◌}
use Rattle.finders.specs.Defaults.{default_openings}
use Rattle.syntax.specs.Openings.{openings_of}
use Rattle.rules.specs.declared.LexerState.TheVariants.{Template}
use Rattle.rules.specs.Config.{config_of, default_config}
use Rattle.reader.specs.Views.{config, unread}
use Rattle.listings.proofs.Lines.{default_lawful, listed}
use Rattle.listings.proofs.add_listing.Goals as goal

pub returns-in-Ok : goal.returns-in-Ok
returns-in-Ok c =
    let told = rw c.in-Ok.is at c.open.ensures.told in
    let opened = rw c.in-Ok.is at c.open.ensures.opened in
    let r = c.in-Ok.reader in
    let opens : openings_of r.settings ≡ default_openings = ap openings_of opened.settings ∙ c.default_settings-settings.ensures.openings in
    let same : config r ≡ default_config = ap config_of opened.settings ∙ c.default_settings-settings.ensures.config in
    listed c.args.template.now r told opens same (opened.view ∙ ap (λ s. unread s Template c.args.template.now) c.default_settings-settings.ensures.config) _ _ _ _ _ c.new.ensures.items c.new.ensures.ending
    (c.add_lines.ensures (c.new.ensures.serves default_openings (default_lawful r opens)))
