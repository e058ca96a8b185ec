-- A default opening has two bytes.
use Rattle.std.proofs.Common.{◌≡◌, length, refl}
use Rattle.std.proofs.ByRecursion.{all-has}
use Rattle.std.specs.List.{ContainsAt as Has}
use Rattle.finder.specs.Finding.{Opening}
use Rattle.finders.specs.Defaults.{default_openings}

pub two_bytes : (o : Opening) → Has default_openings o → length o.bytes ≡ 2
two_bytes o h = all-has (λ p. length p.bytes ≡ 2) default_openings o (refl, (refl, (refl, tt))) h
