use Rattle.std.proofs.Common.{◌≡◌, None, rules}
use Rattle.escape.proofs.Means.{tells_escape}
use Rattle.escape.proofs.unescaper.UnescaperStream.next.Goals as goal

pub returns-in_ok-meant-in-Some-default-eq92-clause-tells : goal.returns-in_ok-meant-in-Some-default-eq92-clause-tells
returns-in_ok-meant-in-Some-default-eq92-clause-tells g c =
    let t = rw (c.in-Some-default-eq92.is, c.in-Some-default-eq92.field-0-1-test) at c.in_ok-backslash.ensures.tells in
    let k = rw c.in_ok-meant-in-Some-default-eq92.ensures.ok_part at c.escape.ensures.value in
    let e : c.err-self.result ≡ None = search rules in
    λ _. rw (c.in_default.is, e) (tells_escape _ _ _ _ _ _ _ _ t k c.escape.ensures.onward.closes)
