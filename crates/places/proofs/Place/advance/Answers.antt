use Rattle.std.proofs.Common.{◌*◌, ◌/◌, length, sym}
use Rattle.std.proofs.Common.{◌++◌, ◌≡◌, ◌∙◌}
use Rattle.std.proofs.lemmas.List.{take-append-drop}
use Rattle.places.specs.Places.{beyond, capped}
use Rattle.places.proofs.Advances.{beyond_parts, told_on}
use Rattle.places.proofs.Place.advance.Goals as goal

pub returns-then-bytes-lt32-clause-told : goal.returns-then-bytes-lt32-clause-told
returns-then-bytes-lt32-clause-told c xs f = told_on xs c.args.bytes.now c.args.self _ c.walk.ensures f

-- the front and the rest
whole : (c : goal.After-walk-2) → c.walk-2.result ≡ capped (beyond c.args.bytes.now c.args.self)
whole c =
    let bytes = c.args.bytes.now in
    let at = length bytes / 32 * 32 in
    let parts : bytes ≡ c.split_at.result.0.now ++ c.split_at.result.1.now =
    sym (take-append-drop at bytes) ∙ sym (λ i. c.split_at.ensures.front i ++ c.split_at.ensures.back i) in
    beyond_parts c.split_at.result.0.now c.split_at.result.1.now bytes c.args.self c.leap.result _ parts c.leap.ensures c.walk-2.ensures

pub returns-clause-value : goal.returns-clause-value
returns-clause-value c = whole c

pub returns-clause-told : goal.returns-clause-told
returns-clause-told c xs f = told_on xs c.args.bytes.now c.args.self _ (whole c) f
