use Rattle.std.proofs.Common.{◌≡◌, ℕ, ◌+◌, ◌-◌, ◌<◌, ◌≤◌, List, length, take, drop, IsUtf8, sym, subst, arith, take-take, length-take, length-drop}
use Rattle.std.specs.Str.{IsValidUpTo}
use Rattle.std.proofs.lemmas.Str.{IsUtf8-encode}
use Rattle.simdutf8.proofs.Parts.{front_and_part}
use Rattle.utf8.proofs.Laws.{prefix_behind, prefix_none, agrees_err}
use Rattle.utf8.proofs.past_block.Goals as goal

-- the place up to which the `n` bytes from `at` on are well formed is such a place of the text
place : (s : List ℕ) (at n k : ℕ) → at ≤ length s → IsUtf8 (take at s) → IsValidUpTo (take n (drop at s)) k → (at + k < length s) × IsUtf8 (take (at + k) s)
place s at n k h u v =
    let l = length-take n (drop at s) in
    let d = length-drop at s in
    let f : IsUtf8 (take k (drop at s)) = rw (take-take k n (drop at s) (omega (arith, v.short))) at v.front in
    (omega (arith, v.short), front_and_part s at h u k f)

pub returns-in_default-clause-ok : goal.returns-in_default-clause-ok
returns-in_default-clause-ok c =
    let at = c.args.«at» in
    let end = c.block_end-end.result in
    let e : at + (end - at) ≡ end = omega arith in
    (omega arith, omega arith, rw e at (front_and_part c.args.s.now at (omega arith) c.requires.1 (end - at) c.in_default.ensures.cases.1))

pub returns-in-Some-clause-ok : goal.returns-in-Some-clause-ok
returns-in-Some-clause-ok c =
    let s = c.args.s.now in
    let byte = c.args.«at» + c.valid_up_to.result in
    let n = c.in-Some.ensures.encoded in
    let f : (byte < length s) × IsUtf8 (take byte s) = rw c.valid_up_to.ensures (place s c.args.«at» _ _ (omega arith) c.requires.1 c.in-Err.ensures.cases.1) in
    (omega (arith, n.2), n.3, front_and_part s byte (omega arith) f.1 c.in-Some.c.width (subst IsUtf8 (sym n.1) (IsUtf8-encode _ n.0)))

pub returns-in-None-clause-err : goal.returns-in-None-clause-err
returns-in-None-clause-err c =
    let s = c.args.s.now in
    let byte = c.args.«at» + c.valid_up_to.result in
    let f : (byte < length s) × IsUtf8 (take byte s) = rw c.valid_up_to.ensures (place s c.args.«at» _ _ (omega arith) c.requires.1 c.in-Err.ensures.cases.1) in
    let p = prefix_behind byte s (omega arith) f.1 in
    let z = prefix_none (drop byte s) (sym c.in-None.ensures.value) in
    (agrees_err s byte (omega arith) f.0).1
