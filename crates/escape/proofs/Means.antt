-- One step of what the characters of a text mean.
use Rattle.std.proofs.Common.{◌≡◌, ℕ, zero, suc, true, false, List, [], ◌∷◌, drop, Some, Ok, Err, sym, refl, ap, ◌∙◌}
use Rattle.std.proofs.lemmas.Bool.{eq-eqb, ne_eqb}
use Rattle.stream.specs.Told.{Ending, Next}
use Rattle.utf8.specs.declared.NotUtf8.{NotUtf8 as Illformed}
use Rattle.escape.specs.declared.fault.DecodeFault.TheVariants.{Escape}
use Rattle.escape.specs.Escapes.{Indexed, Given, Gives, Bad, escape, Unescaped, first, ends, passed, unescaped_from, unescaped}
use Rattle.escape.specs.Meaning.{Took, Tells}

-- the characters that an escape takes are passed over
pub from_drop : (k : ℕ) (cs : List Indexed) (e : Ending Illformed) → unescaped_from k cs e ≡ unescaped (drop k cs) e
unfolding unescaped_from
from_drop zero cs e = refl
from_drop (suc k) [] e = refl
from_drop (suc k) (c ∷ cs) e = from_drop k cs e

-- what stands behind a backslash
behind : ℕ → List Indexed → Ending Illformed → Given → Unescaped
behind i cs e (Gives v n) = first v (unescaped_from n cs e)
behind i cs e Bad = ends (Err (Escape (record { backslash = i })))

pub means_plain : (c : Indexed) (cs : List Indexed) (e : Ending Illformed) → (c.1 ≡ 92 → ⊥) → unescaped (c ∷ cs) e ≡ first c.1 (unescaped cs e)
unfolding unescaped_from
means_plain c cs e h = rw (ne_eqb c.1 92 h, unescaped_from) refl

means_behind : (c : Indexed) (cs : List Indexed) (e : Ending Illformed) → c.1 ≡ 92 → unescaped (c ∷ cs) e ≡ behind c.0 cs e (escape cs)
unfolding unescaped_from behind
means_behind c cs e h = ap (λ b. elim b [ true ↦ behind c.0 cs e (escape cs) | false ↦ first c.1 (unescaped_from 0 cs e) ]) (eq-eqb c.1 92 h)

pub means_gives : (c : Indexed) (cs : List Indexed) (e : Ending Illformed) (v n : ℕ) → c.1 ≡ 92 → escape cs ≡ Gives v n → unescaped (c ∷ cs) e ≡ first v (unescaped (drop n cs) e)
unfolding behind
means_gives c cs e v n h g = means_behind c cs e h ∙ ap (behind c.0 cs e) g ∙ ap (first v) (from_drop n cs e)

pub means_bad : (c : Indexed) (cs : List Indexed) (e : Ending Illformed) → c.1 ≡ 92 → escape cs ≡ Bad → unescaped (c ∷ cs) e ≡ ends (Err (Escape (record { backslash = c.0 })))
unfolding behind
means_bad c cs e h g = means_behind c cs e h ∙ ap (behind c.0 cs e) g

pub means_end : (e : Ending Illformed) → unescaped [] e ≡ ends (passed e)
unfolding unescaped_from
means_end e = refl

-- a step over an escape, from the characters cs to ds behind its backslash and to fs behind all of it
pub tells_escape : (cs ds fs : List Indexed) (d e f : Ending Illformed) (i x : ℕ) → Next cs d (Ok (Some (i, 92))) ds e → Took (Some x) (escape ds) ds fs → f ≡ e → Tells (unescaped cs d) (Ok (Some x)) (unescaped fs f)
tells_escape cs ds fs d e f i x t g q =
    let k : unescaped cs d ≡ first x (unescaped fs f) = ap (λ l. unescaped l d) t.0 ∙ means_gives (i, 92) ds d x g.0 refl g.1
    ∙ ap (λ l. first x (unescaped l d)) (sym g.2) ∙ ap (λ y. first x (unescaped fs y)) (sym (q ∙ t.1)) in
    (ap (λ u. u.points) k, sym (ap (λ u. u.ending) k))
