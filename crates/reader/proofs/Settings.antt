-- What settings give a reader: ends that have bytes, and openings that have bytes and differ.
use Rattle.std.proofs.Common.{◌≡◌, ℕ, ◌<◌, List, [], ◌∷◌, length, refl, ap, ◌∙◌, arith}
use Rattle.syntax.specs.declared.name.DelimiterName.TheVariants.{VariableEnd, BlockEnd}
use Rattle.syntax.specs.declared.settings.Settings.{Settings}
use Rattle.syntax.specs.Building.{table_of}
use Rattle.syntax.specs.Openings.{openings_of, Lawful}
use Rattle.syntax.proofs.Laws.{passes_fit, fit_filled}
use Rattle.syntax.proofs.Openings.{passes_lawful}
use Rattle.rules.specs.Config.{config_of, Ended}
use Rattle.rules.specs.Texts.{AllReal}
use Rattle.rules.proofs.Lawful.{Apart}
use Rattle.rules.proofs.Lengths.{Filled, all_real}

pub ended : (s : Settings) → Ended (config_of s)
ended s =
    let f = passes_fit (table_of s.delims) s.tested in
    record { variable = fit_filled (table_of s.delims) f VariableEnd refl; block = fit_filled (table_of s.delims) f BlockEnd refl }

lawful : (s : Settings) → Lawful (openings_of s)
lawful s = passes_lawful (table_of s.delims) s.tested

some_bytes : (xs : List ℕ) → (xs ≡ [] → ⊥) → 0 < length xs
some_bytes [] h = absurd (h refl)
some_bytes (x ∷ xs) h = omega arith

filled : (s : Settings) → Filled (openings_of s)
filled s o h = some_bytes o.bytes (λ e. (lawful s).filled h.0 o h.1 (ap (λ p. p.bytes) (h.2 o) ∙ e))

-- no opening of settings is passed over
pub none_passed : (s : Settings) → AllReal (openings_of s)
none_passed s = all_real (openings_of s) (filled s)

pub apart : (s : Settings) → Apart (openings_of s)
apart s = (lawful s).apart
