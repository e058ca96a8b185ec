-- What a fault that is told is numbered.
use Rattle.std.proofs.Common.{List, [], ◌∷◌, ℕ, Some, None, Ok, Err, IfErr}
use Rattle.rules.specs.Reading.{finish, act}
use Rattle.rules.specs.Shapes.{Numbered}
use Rattle.rules.specs.State.{Verdict}
use Rattle.reader.specs.Views.{View, tell_by}

finish_numbered : (v : View) (xs : List ℕ) → IfErr (tell_by v (finish v.core xs)).answer (λ f. Numbered f.kind)
finish_numbered v [] = tt
finish_numbered v (x ∷ xs) = tt

-- a fault is told as the verdict has it
pub tells_numbered : (v : View) (q : Verdict) → IfErr q (λ f. Numbered f.kind) → IfErr (tell_by v (act v.core q)).answer (λ f. Numbered f.kind)
tells_numbered v (Ok (Some p)) h = tt
tells_numbered v (Ok None) h = finish_numbered v v.core.cut
tells_numbered v (Err f) h = h
