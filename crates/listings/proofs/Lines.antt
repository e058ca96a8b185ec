-- The lines of a listing, one at a time.
use Rattle.std.proofs.Common.{◌≡◌, ℕ, List, [], ◌∷◌, ◌++◌, Some, Ok, Err, Option, Result, sym, refl, ap, ◌∙◌, append_assoc, subst, OnOk}
use Rattle.std.specs.declared.alloc.AllocError.{AllocError}
use Rattle.stream.specs.Told.{Ending, Next}
use Rattle.places.specs.declared.Place.{Place}
use Rattle.places.specs.Places.{first_place}
use Rattle.pieces.specs.declared.fault.ReadFault.{ReadFault}
use Rattle.finders.specs.Defaults.{default_openings}
use Rattle.syntax.specs.Openings.{openings_of}
use Rattle.rules.specs.Config.{default_config}
use Rattle.rules.specs.Texts.{Same}
use Rattle.reader.specs.declared.reader.Reader.{Reader}
use Rattle.reader.specs.Opens.{open_told}
use Rattle.reader.specs.Views.{config, view_of, items_of, ending_of, Lawful}
use Rattle.listings.specs.declared.row.Row.{Row}
use Rattle.listings.specs.Rows.{row_text, joined}
use Rattle.listings.specs.Listing.{max_listed, refusal_line, ending_line, lines, opened, pieces_in, ending_in, listing}

lines_row : (p : Place) (r : Row) (rs : List Row) (e : Ending ReadFault) → lines p (r ∷ rs) e ≡ (row_text r ++ (10 ∷ [])) ++ lines r.span.end rs e
unfolding lines
lines_row p r rs e = refl

-- the line of a row that is told is written: with those still to come they are the whole as before
pub line_more : (whole out new : List ℕ) (p : Place) (xs ys : List Row) (o : Option Row) (r : Row) (e f : Ending ReadFault) → whole ≡ out ++ lines p xs e → o ≡ Some r → Next xs e (Ok o) ys f → new ≡ out ++ (row_text r ++ (10 ∷ [])) → whole ≡ new ++ lines r.span.end ys f
line_more whole out new p xs ys o r e f i s told w =
    let t = subst (λ x. Next xs e (Ok x) ys f) s told in
    i
    ∙ ap (λ l. out ++ lines p l e) t.0
    ∙ ap (λ x. out ++ lines p (r ∷ ys) x) (sym t.1)
    ∙ ap (λ l. out ++ l) (lines_row p r ys f)
    ∙ sym (append_assoc out (row_text r ++ (10 ∷ [])) (lines r.span.end ys f))
    ∙ ap (λ l. l ++ lines r.span.end ys f) (sym w)

lines_none : (p : Place) (e : Ending ReadFault) → lines p [] e ≡ ending_line p e
unfolding lines
lines_none p e = refl

-- with no row left the last line is written: all lines from the first on are
pub line_last : (done : Result Unit AllocError) (out new first : List ℕ) (p q : Place) (xs rows : List Row) (e d ending : Ending ReadFault) → xs ≡ [] → e ≡ d → first ++ lines q rows ending ≡ out ++ lines p xs e
    → q ≡ first_place → OnOk done (new ≡ out ++ ending_line p d) → OnOk done (new ≡ first ++ lines first_place rows ending)
line_last done out new first p q xs rows e d ending n t i s h =
    subst (λ l. OnOk done (new ≡ l))
    (ap (λ l. out ++ l) (sym (lines_none p d) ∙ ap (λ x. lines p [] x) (sym t) ∙ ap (λ l. lines p l e) (sym n)) ∙ sym i ∙ ap (λ x. first ++ lines x rows ending) s)
    h

-- a reader of the template under the default settings is answered by its meaning where the default openings are found
pub default_lawful : (r : Reader) → openings_of r.settings ≡ default_openings → Lawful r default_openings
default_lawful r e = subst (λ os. Same default_openings os) (sym e) (λ o. (λ h. h, λ h. h))

-- the lines of a reader at the start of a template under the default settings are the listing of that template
module _ (t : List ℕ) (r : Reader) (passes : Ok tt ≡ open_told max_listed t) (e : openings_of r.settings ≡ default_openings) (f : config r ≡ default_config) (g : view_of r ≡ opened t) where
  rows_same : joined (items_of (openings_of r.settings) (config r) (view_of r)) ≡ joined (pieces_in t)
  rows_same = ap (λ os. joined (items_of os (config r) (view_of r))) e ∙ ap (λ s. joined (items_of default_openings s (view_of r))) f ∙ ap (λ v. joined (items_of default_openings default_config v)) g

  ending_same : ending_of (openings_of r.settings) (config r) (view_of r) ≡ ending_in t
  ending_same = ap (λ os. ending_of os (config r) (view_of r)) e ∙ ap (λ s. ending_of default_openings s (view_of r)) f ∙ ap (λ v. ending_of default_openings default_config v) g

  pub listed : (done : Result Unit AllocError) (new out : List ℕ) (rows : List Row) (end : Ending ReadFault) → rows ≡ joined (items_of (openings_of r.settings) (config r) (view_of r)) → end ≡ ending_of (openings_of r.settings) (config r) (view_of r)
      → OnOk done (new ≡ out ++ lines first_place rows end) → OnOk done (new ≡ out ++ listing t)
  listed done new out rows end a b h =
      subst (λ l. OnOk done (new ≡ out ++ l))
      (ap (λ x. lines first_place x end) (a ∙ rows_same) ∙ ap (λ x. lines first_place (joined (pieces_in t)) x) (b ∙ ending_same)
      ∙ ap (λ o. elim o [ Err r ↦ refusal_line r | Ok u ↦ lines first_place (joined (pieces_in t)) (ending_in t) ]) passes)
      h
