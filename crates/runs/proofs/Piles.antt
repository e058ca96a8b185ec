-- Layers keep two meanings apart by the same amounts, and calls on equal piles agree.
use Rattle.std.proofs.Common.{◌≡◌, ℕ, ◌+◌, ◌<◌, min, Bool, true, false, not, eqb, List, [], ◌∷◌, cond, map, drop, Some, None, Ok, Err, Option, Result, sym, refl, ap, ◌∙◌, subst, ⊎_elim, arith}
use Rattle.std.proofs.lemmas.Bool.{cases_Bool, both_ways, eqb-true, eq-eqb}
use Rattle.stream.specs.Told.{Ending, Next, Look}
use Rattle.places.specs.declared.Place.{Place}
use Rattle.places.specs.Places.{line_cap, offset_cap}
use Rattle.pieces.specs.Kinds.{is_gap}
use Rattle.pieces.specs.declared.fault.ReadFault.{ReadFault}
use Rattle.layers.specs.Layers.{drop_gaps, first_line, end_line, on_first, shift_column, shift_place, shift_end, fault_line, shift_fault}
use Rattle.runs.specs.Piles.{Layer, Tokens, Shift, LookAhead, Meaning, layer_over, pile_over, has_shift, Tells, AllTold, Item, item_gap, item_line, shift_item, of_items, Answer}
use Rattle.runs.specs.declared.pile.PileCall.{PileCall}
use Rattle.runs.specs.declared.pile.PileCall.TheVariants.{Takes, Looks}
use Rattle.runs.specs.Resting.{Amounts, ColumnsAgree, AnswersAgree, AllAgree}
use Rattle.runs.proofs.Amounts.{Apart, PlacesApart, ItemsApart, EndsApart, items_agree, faults_agree}

pub record MeaningsApart (x : Bool) (d : Amounts) (m n : Meaning Item) : Type 0 where
  pub items : AllAgree (ItemsApart x d) m.items n.items
  pub ending : EndsApart x d m.ending n.ending

-- gaps go on both sides

unless : {A : Type 0} (R : A → A → Type 0) (b : Bool) (i j : A) (is js : List A) → R i j → AllAgree R is js → AllAgree R (cond b (i ∷ is) is) (cond b (j ∷ js) js)
unfolding AllAgree
unless R true i j is js h k = (h, k)
unless R false i j is js h k = k

tokens_apart : (x : Bool) (d : Amounts) (is js : List Item) → AllAgree (ItemsApart x d) is js → AllAgree (ItemsApart x d) (drop_gaps item_gap is) (drop_gaps item_gap js)
unfolding AllAgree
tokens_apart x d [] [] h = tt
tokens_apart x d [] (j ∷ js) h = absurd h
tokens_apart x d (i ∷ is) [] h = absurd h
tokens_apart x d (i ∷ is) (j ∷ js) h =
    subst (λ b. AllAgree (ItemsApart x d) (cond (not (is_gap i.piece.kind)) (i ∷ drop_gaps item_gap is) (drop_gaps item_gap is)) (cond (not b) (j ∷ drop_gaps item_gap js) (drop_gaps item_gap js)))
    (ap is_gap h.0.kind)
    (unless (ItemsApart x d) (not (is_gap i.piece.kind)) i j (drop_gaps item_gap is) (drop_gaps item_gap js) h.0 (tokens_apart x d is js h.1))

-- the first lines of both sides
abbrev FirstsApart : Amounts → Option ℕ → Option ℕ → Type 0
FirstsApart d None None = Unit {0}
FirstsApart d None (Some n) = ⊥
FirstsApart d (Some m) None = ⊥
FirstsApart d (Some m) (Some n) = Apart line_cap d.line d.other_line m n

end_first : (x : Bool) (d : Amounts) (e f : Ending ReadFault) → EndsApart x d e f → FirstsApart d (end_line fault_line e) (end_line fault_line f)
end_first x d (Ok u) (Ok v) h = tt
end_first x d (Ok u) (Err g) h = absurd h
end_first x d (Err f) (Ok v) h = absurd h
end_first x d (Err f) (Err g) h = h.start.lines

firsts : (x : Bool) (d : Amounts) (is js : List Item) (e f : Ending ReadFault) → AllAgree (ItemsApart x d) is js → EndsApart x d e f → FirstsApart d (first_line item_line fault_line is e) (first_line item_line fault_line js f)
unfolding AllAgree
firsts x d [] [] e f h k = end_first x d e f k
firsts x d [] (j ∷ js) e f h k = absurd h
firsts x d (i ∷ is) [] e f h k = absurd h
firsts x d (i ∷ is) (j ∷ js) e f h k = h.0.start.lines

same_test : (m n k l : ℕ) → (m ≡ n → k ≡ l) → (k ≡ l → m ≡ n) → eqb m n ≡ eqb k l
same_test m n k l f g = ⊎_elim
    (λ e. e ∙ sym (eq-eqb k l (f (eqb-true m n e))))
    (λ e. ⊎_elim
    (λ h. absurd (both_ways (eqb m n) e (eq-eqb m n (g (eqb-true k l h)))))
    (λ h. e ∙ sym h)
    (cases_Bool (eqb k l)))
    (cases_Bool (eqb m n))

loose : (x : Bool) (p q : Place) → ColumnsAgree x p q → ColumnsAgree true p q
loose false p q h = λ k l. h
loose true p q h = h

module _ (x : Bool) (d : Amounts) (base : Place) where
  column_apart : (f g : Option ℕ) (p q : Place) → FirstsApart d f g → PlacesApart x d p q → p.line < line_cap → q.line < line_cap
      → shift_column (on_first f p.line) base.column p.column ≡ shift_column (on_first g q.line) base.column q.column
  column_apart None None p q h k a b = loose x p q k.columns a b
  column_apart None (Some n) p q h k a b = absurd h
  column_apart (Some m) None p q h k a b = absurd h
  column_apart (Some m) (Some n) p q h k a b =
      let l = k.lines in
      let e : eqb p.line m ≡ eqb q.line n = same_test p.line m q.line n (λ z. omega arith) (λ z. omega arith) in
      ap (λ t. shift_column t base.column p.column) e ∙ ap (shift_column (eqb q.line n) base.column) (loose x p q k.columns a b)

  place_shifts : (f g : Option ℕ) (p q : Place) → FirstsApart d f g → PlacesApart x d p q → PlacesApart true d (shift_place base f p) (shift_place base g q)
  place_shifts f g p q h k =
      let l = k.lines in
      let o = k.offsets in
      record {
        lines = record { more = l.more + base.line; here = omega arith; there = omega arith };
        offsets = record { more = o.more + base.offset; here = omega arith; there = omega arith };
        columns = λ a b. column_apart f g p q h k (omega arith) (omega arith);
      }

  offset_shifts : (m n : ℕ) → Apart offset_cap d.offset d.other_offset m n → Apart offset_cap d.offset d.other_offset (min (m + base.offset) offset_cap) (min (n + base.offset) offset_cap)
  offset_shifts m n o = record { more = o.more + base.offset; here = omega arith; there = omega arith }

  item_shifts : (f g : Option ℕ) (i j : Item) → FirstsApart d f g → ItemsApart x d i j → ItemsApart true d (shift_item base f i) (shift_item base g j)
  item_shifts f g i j h k = record {
    kind = k.kind;
    text = k.text;
    value = k.value;
    start = place_shifts f g i.piece.span.start j.piece.span.start h k.start;
    finish = place_shifts f g i.piece.span.end j.piece.span.end h k.finish;
    from = offset_shifts i.piece.text.start j.piece.text.start k.from;
    to = offset_shifts i.piece.text.end j.piece.text.end k.to;
  }

  items_shift : (f g : Option ℕ) (is js : List Item) → FirstsApart d f g → AllAgree (ItemsApart x d) is js → AllAgree (ItemsApart true d) (map (shift_item base f) is) (map (shift_item base g) js)
  unfolding AllAgree
  items_shift f g [] [] h k = tt
  items_shift f g [] (j ∷ js) h k = absurd k
  items_shift f g (i ∷ is) [] h k = absurd k
  items_shift f g (i ∷ is) (j ∷ js) h k = (item_shifts f g i j h k.0, items_shift f g is js h k.1)

  end_shifts : (f g : Option ℕ) (e l : Ending ReadFault) → FirstsApart d f g → EndsApart x d e l → EndsApart true d (shift_end shift_fault base f e) (shift_end shift_fault base g l)
  end_shifts f g (Ok u) (Ok v) h k = tt
  end_shifts f g (Ok u) (Err b) h k = absurd k
  end_shifts f g (Err a) (Ok v) h k = absurd k
  end_shifts f g (Err a) (Err b) h k = record {
    kind = k.kind;
    start = place_shifts f g a.span.start b.span.start h k.start;
    finish = place_shifts f g a.span.end b.span.end h k.finish;
  }

  shift_apart : (m n : Meaning Item) → MeaningsApart x d m n → MeaningsApart true d (layer_over of_items (Shift base) m) (layer_over of_items (Shift base) n)
  shift_apart m n h =
      let f = first_line item_line fault_line m.items m.ending in
      let g = first_line item_line fault_line n.items n.ending in
      let k : FirstsApart d f g = firsts x d m.items n.items m.ending n.ending h.items h.ending in
      record { items = items_shift f g m.items n.items k h.items; ending = end_shifts f g m.ending n.ending k h.ending }

-- equal piles over two meanings
pub pile_apart : (ls : List Layer) (d : Amounts) (m n : Meaning Item) → MeaningsApart false d m n → MeaningsApart (has_shift ls) d (pile_over of_items ls m) (pile_over of_items ls n)
unfolding has_shift
pile_apart [] d m n h = h
pile_apart (Tokens ∷ ls) d m n h =
    let k = pile_apart ls d m n h in
    record { items = tokens_apart (has_shift ls) d (pile_over of_items ls m).items (pile_over of_items ls n).items k.items; ending = k.ending }
pile_apart (Shift base ∷ ls) d m n h = shift_apart (has_shift ls) d base (pile_over of_items ls m) (pile_over of_items ls n) (pile_apart ls d m n h)
pile_apart (LookAhead ∷ ls) d m n h = pile_apart ls d m n h

-- calls on them

-- what the first of these items tells, and with none the ending
abbrev pub told_by : {I : Type 0} → List I → Ending ReadFault → Result (Option I) ReadFault
told_by [] (Ok u) = Ok None
told_by [] (Err f) = Err f
told_by (x ∷ xs) e = Ok (Some x)

-- what a call leaves of them
abbrev pub left_by : {I : Type 0} → PileCall → List I → List I
left_by Takes xs = drop 1 xs
left_by Looks xs = xs

module _ {I : Type 0} where
  next_is : (is js : List I) (e f : Ending ReadFault) (a : Result (Option I) ReadFault) → Next is e a js f → (a ≡ told_by is e) × (js ≡ drop 1 is) × (f ≡ e)
  next_is is js e f (Ok (Some x)) h = (sym (ap (λ l. told_by l e) h.0), sym (ap (drop 1) h.0), h.1)
  next_is is js e f (Ok None) h = (sym (ap (λ l. told_by l e) h.0 ∙ ap (told_by []) h.1), h.2 ∙ sym (ap (drop 1) h.0), h.3)
  next_is is js e f (Err g) h = (sym (ap (λ l. told_by l e) h.0 ∙ ap (told_by []) h.1), h.2 ∙ sym (ap (drop 1) h.0), h.3)

  look_is : (is : List I) (e : Ending ReadFault) (a : Result (Option I) ReadFault) → Look is e a → a ≡ told_by is e
  look_is is e (Ok (Some x)) h = sym (ap (λ l. told_by l e) h)
  look_is is e (Ok None) h = sym (ap (λ l. told_by l e) h.0 ∙ ap (told_by []) h.1)
  look_is is e (Err g) h = sym (ap (λ l. told_by l e) h.0 ∙ ap (told_by []) h.1)

  -- the contracts allow one answer and leave one meaning
  pub tells_is : (c : PileCall) (m n : Meaning I) (a : Result (Option I) ReadFault) → Tells m c a n → (a ≡ told_by m.items m.ending) × (n.items ≡ left_by c m.items) × (n.ending ≡ m.ending)
  tells_is Takes m n a h = next_is m.items n.items m.ending n.ending a h
  tells_is Looks m n a h = (look_is m.items m.ending a h.0, h.1, h.2)

  next_tells : (is : List I) (e : Ending ReadFault) → Next is e (told_by is e) (drop 1 is) e
  next_tells [] (Ok u) = (refl, refl, refl, refl)
  next_tells [] (Err f) = (refl, refl, refl, refl)
  next_tells (x ∷ xs) e = (refl, refl)

  look_tells : (is : List I) (e : Ending ReadFault) → Look is e (told_by is e)
  look_tells [] (Ok u) = (refl, refl)
  look_tells [] (Err f) = (refl, refl)
  look_tells (x ∷ xs) e = refl

  pub is_told : (c : PileCall) (m : Meaning I) → Tells m c (told_by m.items m.ending) (record { items = left_by c m.items; ending = m.ending })
  is_told Takes m = next_tells m.items m.ending
  is_told Looks m = (look_tells m.items m.ending, refl, refl)

end_tells : (x : Bool) (d : Amounts) (e f : Ending ReadFault) → EndsApart x d e f → AnswersAgree x d (told_by [] e) (told_by [] f)
end_tells x d (Ok u) (Ok v) h = tt
end_tells x d (Ok u) (Err g) h = absurd h
end_tells x d (Err f) (Ok v) h = absurd h
end_tells x d (Err f) (Err g) h = faults_agree x d f g h

told_apart : (x : Bool) (d : Amounts) (is js : List Item) (e f : Ending ReadFault) → AllAgree (ItemsApart x d) is js → EndsApart x d e f → AnswersAgree x d (told_by is e) (told_by js f)
unfolding AllAgree
told_apart x d [] [] e f h k = end_tells x d e f k
told_apart x d [] (j ∷ js) e f h k = absurd h
told_apart x d (i ∷ is) [] e f h k = absurd h
told_apart x d (i ∷ is) (j ∷ js) e f h k = items_agree x d i j h.0

left_apart : {A : Type 0} (R : A → A → Type 0) (c : PileCall) (is js : List A) → AllAgree R is js → AllAgree R (left_by c is) (left_by c js)
unfolding AllAgree
left_apart R Looks is js h = h
left_apart R Takes [] [] h = tt
left_apart R Takes [] (j ∷ js) h = absurd h
left_apart R Takes (i ∷ is) [] h = absurd h
left_apart R Takes (i ∷ is) (j ∷ js) h = h.1

-- one answer on each side that the contracts allow
both_told : (x : Bool) (d : Amounts) (m n : Meaning Item) (a b : Answer) → MeaningsApart x d m n → a ≡ told_by m.items m.ending → b ≡ told_by n.items n.ending → AnswersAgree x d a b
both_told x d m n a b h p q = subst (λ r. AnswersAgree x d r b) (sym p) (subst (AnswersAgree x d (told_by m.items m.ending)) (sym q) (told_apart x d m.items n.items m.ending n.ending h.items h.ending))

-- what a call leaves on each side
both_left : (x : Bool) (d : Amounts) (c : PileCall) (m n k l : Meaning Item) → MeaningsApart x d m n → k.items ≡ left_by c m.items → k.ending ≡ m.ending → l.items ≡ left_by c n.items → l.ending ≡ n.ending → MeaningsApart x d k l
both_left x d c m n k l h p q u v = record {
  items = subst (λ is. AllAgree (ItemsApart x d) is l.items) (sym p) (subst (AllAgree (ItemsApart x d) (left_by c m.items)) (sym u) (left_apart (ItemsApart x d) c m.items n.items h.items));
  ending = subst (λ e. EndsApart x d e l.ending) (sym q) (subst (EndsApart x d m.ending) (sym v) h.ending);
}

pub calls_agree : (x : Bool) (d : Amounts) (cs : List PileCall) (m n : Meaning Item) (xs ys : List Answer) → MeaningsApart x d m n → AllTold m cs xs → AllTold n cs ys → AllAgree (AnswersAgree x d) xs ys
unfolding AllAgree AllTold
calls_agree x d [] m n [] [] h p q = tt
calls_agree x d [] m n [] (b ∷ ys) h p q = absurd q
calls_agree x d [] m n (a ∷ xs) ys h p q = absurd p
calls_agree x d (c ∷ cs) m n [] ys h p q = absurd p
calls_agree x d (c ∷ cs) m n (a ∷ xs) [] h p q = absurd q
calls_agree x d (c ∷ cs) m n (a ∷ xs) (b ∷ ys) h (k, p, u) (l, q, v) =
    let f = tells_is c m k a p in
    let g = tells_is c n l b q in
    (both_told x d m n a b h f.0 g.0, calls_agree x d cs k l xs ys (both_left x d c m n k l h f.1 f.2 g.1 g.2) u v)
