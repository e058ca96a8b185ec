-- Rows of pieces, one step at a time.
use Rattle.std.proofs.Common.{◌≡◌, Bool, true, false, ◌&&◌, List, [], ◌∷◌, sym, refl, ap, ◌∙◌}
use Rattle.std.proofs.lemmas.Bool.{both_ways}
use Rattle.std.specs.List.{AllByRecursion}
use Rattle.pieces.specs.declared.piece.Piece.{Piece}
use Rattle.listings.specs.declared.row.Row.{Row}
use Rattle.listings.specs.Rows.{is_white, row_of, reaching, put, joined, starts_white, IsWhite, Makes, Parted, Joins}

pub joined_none : joined [] ≡ []
unfolding joined
joined_none = refl

pub joined_more : (p : Piece) (ps : List Piece) → joined (p ∷ ps) ≡ put (row_of p) (joined ps)
unfolding joined
joined_more p ps = refl

-- two rows, joined or not
abbrev put_by : Row → Row → List Row → Bool → List Row
put_by r s rs b = elim b [ true ↦ reaching r s ∷ rs | false ↦ r ∷ s ∷ rs ]

and_false : (a b : Bool) → b ≡ false → (a && b) ≡ false
and_false true b e = e
and_false false b e = refl

-- two white rows are one
put_both : (r s : Row) (rs : List Row) → is_white r.kind ≡ true → is_white s.kind ≡ true → put r (s ∷ rs) ≡ reaching r s ∷ rs
put_both r s rs e f = ap (λ b. put_by r s rs (b && is_white s.kind)) e ∙ ap (put_by r s rs) f

-- nothing is joined to a row that is not white
pub put_other : (r : Row) (rs : List Row) → is_white r.kind ≡ false → put r rs ≡ r ∷ rs
put_other r [] e = refl
put_other r (s ∷ rs) e = ap (λ b. put_by r s rs (b && is_white s.kind)) e

-- a row that is not white is joined to none
put_before : (r s : Row) (rs : List Row) → is_white s.kind ≡ false → put r (s ∷ rs) ≡ r ∷ s ∷ rs
put_before r s rs e = ap (put_by r s rs) (and_false (is_white r.kind) (is_white s.kind) e)

-- where no white piece comes next, nothing is joined
pub put_stops : (r : Row) (ps : List Piece) → starts_white ps ≡ false → put r (joined ps) ≡ r ∷ joined ps
unfolding joined
put_stops r [] e = refl
put_stops r (p ∷ ps) e =
    let f : joined (p ∷ ps) ≡ row_of p ∷ joined ps = put_other (row_of p) (joined ps) e in
    ap (put r) f ∙ put_before r (row_of p) (joined ps) e ∙ ap (λ rs. r ∷ rs) (sym f)

-- a white row takes up a white one behind it, whatever follows
put_third : (r s t : Row) (rs : List Row) → is_white r.kind ≡ true → is_white s.kind ≡ true → (b : Bool) → is_white t.kind ≡ b → put r (put s (t ∷ rs)) ≡ put (reaching r s) (t ∷ rs)
put_third r s t rs e f true g = ap (put r) (put_both s t rs f g) ∙ put_both r (reaching s t) rs e f ∙ sym (put_both (reaching r s) t rs e g)
put_third r s t rs e f false g = ap (put r) (put_before s t rs g) ∙ put_both r s (t ∷ rs) e f ∙ sym (put_before (reaching r s) t rs g)

put_twice : (r s : Row) (rs : List Row) → is_white r.kind ≡ true → is_white s.kind ≡ true → put r (put s rs) ≡ put (reaching r s) rs
put_twice r s [] e f = put_both r s [] e f
put_twice r s (t ∷ rs) e f = put_third r s t rs e f (is_white t.kind) refl

-- a white piece that comes next moves the end of a white row
pub put_white : (r : Row) (p : Piece) (ps : List Piece) → is_white r.kind ≡ true → is_white p.kind ≡ true → put r (joined (p ∷ ps)) ≡ put (reaching r (row_of p)) (joined ps)
unfolding joined
put_white r p ps e f = put_twice r (row_of p) (joined ps) e f

-- the law of rows

-- all of a run are white that makes a white row
run_white : (q : Piece) (qs : List Piece) (s : Row) → Makes (q ∷ qs) s → is_white s.kind ≡ true → AllByRecursion IsWhite (q ∷ qs)
run_white q [] s m e = (ap is_white (sym m.0) ∙ e, tt)
run_white q (x ∷ xs) s m e = m.3

-- a white piece in front of a run that makes a white row
run_more : (p : Piece) (g : List Piece) (s : Row) → Makes g s → is_white p.kind ≡ true → is_white s.kind ≡ true → Makes (p ∷ g) (reaching (row_of p) s)
run_more p [] s m e f = absurd m
run_more p (q ∷ qs) s m e f = (refl, refl, m.2, (e, run_white q qs s m f))

-- what follows a white row follows another one
parted_by : (r s : Row) (rs : List Row) → is_white r.kind ≡ true → is_white s.kind ≡ true → Parted s rs → Parted r rs
parted_by r s [] e f h = tt
parted_by r s (t ∷ rs) e f h = ap (λ b. b && is_white t.kind) (e ∙ sym f) ∙ h

and_both : (a b : Bool) → (a && b) ≡ true → (a ≡ true) × (b ≡ true)
and_both true b e = (refl, e)
and_both false b e = absurd (both_ways false refl e)

-- a piece in front is a run of its own, or goes to the first run
joins_by : (p : Piece) (ps : List Piece) (s : Row) (rs : List Row) (b : Bool) → (is_white p.kind && is_white s.kind) ≡ b → Joins ps (s ∷ rs) → Joins (p ∷ ps) (put_by (row_of p) s rs b)
joins_by p ps s rs false e d = ((p ∷ []) ∷ d.0, ap (λ l. p ∷ l) d.1, ((refl, refl, refl, tt), d.2), (e, d.3))
joins_by p ps s rs true e ([], a, m, h) = absurd m
joins_by p ps s rs true e (g ∷ gs, a, m, h) =
    let k = and_both (is_white p.kind) (is_white s.kind) e in
    ((p ∷ g) ∷ gs, ap (λ l. p ∷ l) a, (run_more p g s m.0 k.0 k.1, m.1), (parted_by (reaching (row_of p) s) s rs k.0 k.1 h.0, h.1))

joins_put : (p : Piece) (ps : List Piece) (rs : List Row) → Joins ps rs → Joins (p ∷ ps) (put (row_of p) rs)
joins_put p ps [] d = ((p ∷ []) ∷ d.0, ap (λ l. p ∷ l) d.1, ((refl, refl, refl, tt), d.2), (tt, tt))
joins_put p ps (s ∷ rs) d = joins_by p ps s rs (is_white p.kind && is_white s.kind) refl d

pub rows_join : (ps : List Piece) → Joins ps (joined ps)
unfolding joined
rows_join [] = ([], refl, tt, tt)
rows_join (p ∷ ps) = joins_put p ps (joined ps) (rows_join ps)
