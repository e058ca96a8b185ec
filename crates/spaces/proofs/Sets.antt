-- The laws of ranges.
use Rattle.std.proofs.Common.{◌≡◌, ℕ, zero, suc, ◌<◌, ◌≤◌, Bool, true, false, leb, ◌||◌, List, [], ◌∷◌, length, get_or, Decides, sym, refl, ap, ◌∙◌, ⊎_elim, arith}
use Rattle.std.proofs.lemmas.Bool.{cases_Bool, both_ways, and_parts, and_from, leb-true, le-leb}
use Rattle.spaces.specs.declared.CodeRange.{CodeRange}
use Rattle.std.specs.Char.{is_whitespace}
use Rattle.std.specs.List.{list_any}
use Rattle.std.proofs.lemmas.Bool.Decides.{nat_tests}
use Rattle.spaces.specs.Spaces.{white_space, holds, in_ranges, Held}

in_yes : (r : CodeRange) (rs : List CodeRange) (c : ℕ) → holds r c ≡ true → in_ranges (r ∷ rs) c ≡ true
unfolding in_ranges
in_yes r rs c e = ap (λ b. elim b [ true ↦ true | false ↦ in_ranges rs c ]) e

in_no : (r : CodeRange) (rs : List CodeRange) (c : ℕ) → holds r c ≡ false → in_ranges (r ∷ rs) c ≡ in_ranges rs c
unfolding in_ranges
in_no r rs c e = ap (λ b. elim b [ true ↦ true | false ↦ in_ranges rs c ]) e

in_held : (rs : List CodeRange) (c : ℕ) → in_ranges rs c ≡ true → Held rs c
unfolding in_ranges
in_held [] c e = absurd (both_ways false refl e)
in_held (r ∷ rs) c e = ⊎_elim
    (λ t. let p = and_parts (leb r.first c) (leb c r.last) t in (0, omega arith, λ d. (leb-true r.first c p.0, leb-true c r.last p.1)))
    (λ t. let h = in_held rs c (sym (in_no r rs c t) ∙ e) in (suc h.0, omega arith, h.2))
    (cases_Bool (holds r c))

held_in : (rs : List CodeRange) (c k : ℕ) → k < length rs → ((d : CodeRange) → ((get_or rs k d).first ≤ c) × (c ≤ (get_or rs k d).last)) → in_ranges rs c ≡ true
held_in [] c k h f = absurd (omega arith)
held_in (r ∷ rs) c zero h f = in_yes r rs c (and_from (leb r.first c) (leb c r.last) (le-leb r.first c (f r).0) (le-leb c r.last (f r).1))
held_in (r ∷ rs) c (suc k) h f = ⊎_elim (λ t. in_yes r rs c t) (λ t. in_no r rs c t ∙ held_in rs c k (omega arith) f) (cases_Bool (holds r c))

pub in_decides : (rs : List CodeRange) (c : ℕ) (r : Bool) → r ≡ in_ranges rs c → Decides r (Held rs c)
in_decides rs c r e = ((λ t. in_held rs c (sym e ∙ t)), (λ h. e ∙ held_in rs c h.0 h.1 h.2))

-- whether a range holds it, asked of one range after another
pub any_holds : (rs : List CodeRange) (c : ℕ) → list_any (λ r. holds r c) rs ≡ in_ranges rs c
unfolding in_ranges
any_holds [] c = refl
any_holds (r ∷ rs) c = elim (holds r c) as (λ b. (b || list_any (λ r. holds r c) rs) ≡ elim b [ true ↦ true | false ↦ in_ranges rs c ]) [ true ↦ refl | false ↦ any_holds rs c ]

-- the table is what the standard library takes for white space
pub white_agrees : (c : ℕ) → in_ranges white_space c ≡ is_whitespace c
unfolding in_ranges
white_agrees c = grind (arith, nat_tests)
