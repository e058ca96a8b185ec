-- What a call tells is the first of what a reader means.
use Rattle.std.proofs.Common.{◌≡◌, ℕ, suc, ◌≤◌, List, [], ◌∷◌, Some, None, Ok, Err, Option, sym, refl, ap, ◌∙◌, subst, arith}
use Rattle.finder.specs.Finding.{Opening}
use Rattle.stream.specs.Told.{Ending, Next, Falls}
use Rattle.places.specs.declared.Place.{Place}
use Rattle.places.specs.Places.{beyond}
use Rattle.pieces.specs.declared.fault.ReadFault.{ReadFault}
use Rattle.pieces.specs.declared.piece.Piece.{Piece}
use Rattle.rules.specs.Config.{Config, Ended}
use Rattle.rules.specs.Reading.{Part, Stop, Outcome, Gives, Stops, act, call, Parts, first, only, go_on, measure, meaning}
use Rattle.rules.specs.Told.{placed, pieces, behind, ended, ending}
use Rattle.rules.specs.Texts.{Same}
use Rattle.rules.proofs.Fuel.{FineAt, Steps, call_steps, meaning_step}
use Rattle.rules.proofs.Lawful.{Apart, same_verdict}
use Rattle.reader.specs.Views.{View, Told, told_as, tell_by, tell, items_of, ending_of, left_of}

pieces_first : (p : Place) (x : Part) (r : Parts) → pieces p (first x r).parts ≡ placed p x ∷ pieces (beyond x.bytes p) r.parts
unfolding pieces
pieces_first p x r = refl

ending_first : (p : Place) (x : Part) (r : Parts) → ending p (first x r) ≡ ending (beyond x.bytes p) r
unfolding behind
ending_first p x r = refl

pieces_none : (p : Place) (e : Stop) → pieces p (only e).parts ≡ []
unfolding pieces
pieces_none p e = refl

ending_none : (p : Place) (e : Stop) → ending p (only e) ≡ ended p e
unfolding behind
ending_none p e = refl

-- an ending that is told with no item left, and stays
next_told : (e g f : Ending ReadFault) (xs ys : List Piece) → xs ≡ [] → g ≡ e → ys ≡ [] → f ≡ g → Next xs g (told_as e) ys f
next_told (Ok u) g f xs ys a b c d = (a, b, c, d)
next_told (Err t) g f xs ys a b c d = (a, b, c, d)

-- an ending that is told leaves no more
falls_told : (e : Ending ReadFault) (m n : ℕ) → n ≤ m → Falls m (told_as e) n
falls_told (Ok u) m n h = h
falls_told (Err t) m n h = h

module _ (os : List Opening) (s : Config) (v : View) where
  tells_by : (r : Outcome) → meaning os s v.core ≡ go_on (meaning os s) r
      → Next (pieces v.place (meaning os s v.core).parts) (ending v.place (meaning os s v.core)) (tell_by v r).answer (items_of os s (tell_by v r).after) (ending_of os s (tell_by v r).after)
  tells_by (Gives p d) e = (
    ap (λ x. pieces v.place x.parts) e ∙ pieces_first v.place p (meaning os s d),
    sym (ap (ending v.place) e ∙ ending_first v.place p (meaning os s d)),
  )
  tells_by (Stops q) e =
      let a = ap (λ x. pieces v.place x.parts) e ∙ pieces_none v.place q in
      let b = sym (ap (ending v.place) e ∙ ending_none v.place q) in
      next_told (ended v.place q) (ending v.place (meaning os s v.core)) (ended v.place q) (pieces v.place (meaning os s v.core).parts) [] a (sym b) refl b

  falls_by : (r : Outcome) → Steps v.core r → Falls (suc (measure v.core)) (tell_by v r).answer (left_of (tell_by v r).after)
  falls_by (Gives p d) h = omega (arith, h.0)
  falls_by (Stops q) h = falls_told (ended v.place q) (suc (measure v.core)) 0 (omega arith)

  -- an ending that was told is told again
  pub told_before : (x : Ending ReadFault) → v.told ≡ Some x → tell os s v ≡ record { answer = told_as x; after = v }
  told_before x e = ap (λ o. elim o as (λ _. Told) [ Some y ↦ record { answer = told_as y; after = v } | None ↦ tell_by v (call os s v.core) ]) e

  -- where none was told the rules decide
  pub told_now : v.told ≡ None → tell os s v ≡ tell_by v (call os s v.core)
  told_now e = ap (λ o. elim o as (λ _. Told) [ Some y ↦ record { answer = told_as y; after = v } | None ↦ tell_by v (call os s v.core) ]) e

  -- what is told, by whether an ending was told before
  tells_so : (o : Option (Ending ReadFault)) → v.told ≡ o → FineAt v.core → Ended s → Next (items_of os s v) (ending_of os s v) (tell os s v).answer (items_of os s (tell os s v).after) (ending_of os s (tell os s v).after)
  tells_so None e f ends =
      subst (λ o. Next (elim o [ Some x ↦ [] | None ↦ pieces v.place (meaning os s v.core).parts ]) (elim o [ Some x ↦ x | None ↦ ending v.place (meaning os s v.core) ])
      (elim o as (λ _. Told) [ Some x ↦ record { answer = told_as x; after = v } | None ↦ tell_by v (call os s v.core) ]).answer
      (items_of os s (elim o as (λ _. Told) [ Some x ↦ record { answer = told_as x; after = v } | None ↦ tell_by v (call os s v.core) ]).after)
      (ending_of os s (elim o as (λ _. Told) [ Some x ↦ record { answer = told_as x; after = v } | None ↦ tell_by v (call os s v.core) ]).after))
      (sym e) (tells_by (call os s v.core) (meaning_step os s ends v.core f))
  tells_so (Some x) e f ends =
      let i : items_of os s v ≡ [] = ap (λ o. elim o [ Some y ↦ [] | None ↦ pieces v.place (meaning os s v.core).parts ]) e in
      let n : ending_of os s v ≡ x = ap (λ o. elim o [ Some y ↦ y | None ↦ ending v.place (meaning os s v.core) ]) e in
      subst (λ t. Next (items_of os s v) (ending_of os s v) t.answer (items_of os s t.after) (ending_of os s t.after))
      (sym (ap (λ o. elim o as (λ _. Told) [ Some y ↦ record { answer = told_as y; after = v } | None ↦ tell_by v (call os s v.core) ]) e))
      (next_told x (ending_of os s v) (ending_of os s v) (items_of os s v) (items_of os s v) i n i refl)

  pub tells : FineAt v.core → Ended s → Next (items_of os s v) (ending_of os s v) (tell os s v).answer (items_of os s (tell os s v).after) (ending_of os s (tell os s v).after)
  tells f ends = tells_so v.told refl f ends

  falls_so : (o : Option (Ending ReadFault)) → v.told ≡ o → FineAt v.core → Ended s → Falls (left_of v) (tell os s v).answer (left_of (tell os s v).after)
  falls_so None e f ends =
      subst (λ o. Falls (elim o [ Some x ↦ 0 | None ↦ suc (measure v.core) ]) (elim o as (λ _. Told) [ Some x ↦ record { answer = told_as x; after = v } | None ↦ tell_by v (call os s v.core) ]).answer (left_of (elim o as (λ _. Told) [ Some x ↦ record { answer = told_as x; after = v } | None ↦ tell_by v (call os s v.core) ]).after))
      (sym e) (falls_by (call os s v.core) (call_steps os s ends v.core f))
  falls_so (Some x) e f ends =
      subst (λ t. Falls (left_of v) t.answer (left_of t.after))
      (sym (ap (λ o. elim o as (λ _. Told) [ Some y ↦ record { answer = told_as y; after = v } | None ↦ tell_by v (call os s v.core) ]) e))
      (falls_told x (left_of v) (left_of v) (omega arith))

  pub falls : FineAt v.core → Ended s → Falls (left_of v) (tell os s v).answer (left_of (tell os s v).after)
  falls f ends = falls_so v.told refl f ends

-- the same openings tell the same
pub same_tell : (os ps : List Opening) → Apart ps → Same os ps → (s : Config) (v : View) → tell os s v ≡ tell ps s v
same_tell os ps apart h s v =
    ap (λ x. elim v.told [ Some e ↦ record { answer = told_as e; after = v } | None ↦ tell_by v (act v.core x) ]) (same_verdict ps apart os h s v.core.behind v.core.ahead v.core.state v.core.pending)
