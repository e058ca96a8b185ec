-- Without their texts the items of a pile are the pieces that the code's layers mean, and each answer of the code has its text.
use Rattle.std.proofs.Common.{◌≡◌, ℕ, Bool, true, false, not, cond, List, [], ◌∷◌, map, Ok, Err, Option, Result, sym, refl, ap, ◌∙◌, subst}
use Rattle.finder.specs.Finding.{Opening}
use Rattle.stream.specs.Told.{Ending}
use Rattle.places.specs.declared.Place.{Place}
use Rattle.pieces.specs.Kinds.{is_gap}
use Rattle.pieces.specs.declared.piece.Piece.{Piece}
use Rattle.pieces.specs.declared.fault.ReadFault.{ReadFault}
use Rattle.rules.specs.Config.{Config}
use Rattle.reader.specs.Views.{View, items_of, ending_of}
use Rattle.layers.specs.Layers.{drop_gaps, first_line, piece_gap, piece_line, fault_line, shift_piece, shift_fault, shift_end}
use Rattle.runs.specs.Piles.{Layer, Tokens, Shift, LookAhead, Meaning, of_pieces, layer_over, pile_over, reads, AllTold, Item, item_gap, item_line, shift_item, of_items, item_in, meaning_of, Answer, bare, WithTexts}
use Rattle.runs.specs.declared.pile.PileCall.{PileCall}
use Rattle.runs.specs.declared.pile.PileCall.TheVariants.{Takes, Looks}
use Rattle.runs.proofs.Piles.{told_by, left_by, tells_is, is_told}

abbrev pieces_in : List Item → List Piece
pieces_in xs = map (λ x. x.piece) xs

abbrev plain : Meaning Item → Meaning Piece
plain m = record { items = pieces_in m.items; ending = m.ending }

-- layers make the same of items as of their pieces

kept_or_not : (b : Bool) (x : Item) (xs : List Item) → pieces_in (cond b (x ∷ xs) xs) ≡ cond b (x.piece ∷ pieces_in xs) (pieces_in xs)
kept_or_not true x xs = refl
kept_or_not false x xs = refl

drops_plain : (xs : List Item) → pieces_in (drop_gaps item_gap xs) ≡ drop_gaps piece_gap (pieces_in xs)
drops_plain [] = refl
drops_plain (x ∷ xs) =
    let b = not (is_gap x.piece.kind) in
    kept_or_not b x (drop_gaps item_gap xs) ∙ ap (λ l. cond b (x.piece ∷ l) l) (drops_plain xs)

shifts_plain : (base : Place) (first : Option ℕ) (xs : List Item) → pieces_in (map (shift_item base first) xs) ≡ map (shift_piece base first) (pieces_in xs)
shifts_plain base first [] = refl
shifts_plain base first (x ∷ xs) = ap (λ l. shift_piece base first x.piece ∷ l) (shifts_plain base first xs)

first_plain : (xs : List Item) (e : Ending ReadFault) → first_line item_line fault_line xs e ≡ first_line piece_line fault_line (pieces_in xs) e
first_plain [] e = refl
first_plain (x ∷ xs) e = refl

shift_plain : (base : Place) (m : Meaning Item) → plain (layer_over of_items (Shift base) m) ≡ layer_over of_pieces (Shift base) (plain m)
shift_plain base m =
    let f = first_line item_line fault_line m.items m.ending in
    ap (λ l. record { items = l; ending = shift_end shift_fault base f m.ending }) (shifts_plain base f m.items)
    ∙ ap (λ n. record { items = map (shift_piece base n) (pieces_in m.items); ending = shift_end shift_fault base n m.ending }) (first_plain m.items m.ending)

pile_plain : (ls : List Layer) (m : Meaning Item) → plain (pile_over of_items ls m) ≡ pile_over of_pieces ls (plain m)
pile_plain [] m = refl
pile_plain (Tokens ∷ ls) m =
    ap (λ l. record { items = l; ending = (pile_over of_items ls m).ending }) (drops_plain (pile_over of_items ls m).items)
    ∙ ap (layer_over of_pieces Tokens) (pile_plain ls m)
pile_plain (Shift base ∷ ls) m = shift_plain base (pile_over of_items ls m) ∙ ap (layer_over of_pieces (Shift base)) (pile_plain ls m)
pile_plain (LookAhead ∷ ls) m = pile_plain ls m

items_plain : (t : List ℕ) (ps : List Piece) → pieces_in (map (item_in t) ps) ≡ ps
items_plain t [] = refl
items_plain t (p ∷ ps) = ap (λ l. p ∷ l) (items_plain t ps)

-- what a pile over a reader means, without the texts
reads_plain : (os : List Opening) (s : Config) (t : List ℕ) (v : View) (ls : List Layer) → plain (pile_over of_items ls (meaning_of os s t v)) ≡ pile_over of_pieces ls (reads os s v)
reads_plain os s t v ls =
    pile_plain ls (meaning_of os s t v)
    ∙ ap (λ l. pile_over of_pieces ls (record { items = l; ending = ending_of os s v })) (items_plain t (items_of os s v))

-- answers

told_plain : (xs : List Item) (e : Ending ReadFault) → bare (told_by xs e) ≡ told_by (pieces_in xs) e
told_plain [] (Ok u) = refl
told_plain [] (Err f) = refl
told_plain (x ∷ xs) e = refl

left_plain : (c : PileCall) (xs : List Item) → pieces_in (left_by c xs) ≡ left_by c (pieces_in xs)
left_plain Looks xs = refl
left_plain Takes [] = refl
left_plain Takes (x ∷ xs) = refl

same_meaning : (n : Meaning Piece) (is : List Piece) (e : Ending ReadFault) → n.items ≡ is → n.ending ≡ e → n ≡ record { items = is; ending = e }
same_meaning n is e h k = ap (λ l. record { items = l; ending = n.ending }) h ∙ ap (λ f. record { items = is; ending = f }) k

told_texts : (m : Meaning Item) (r : Result (Option Piece) ReadFault) (rs : List (Result (Option Piece) ReadFault)) (is : List Answer) → r ≡ told_by (pieces_in m.items) m.ending → map bare is ≡ rs
    → map bare (told_by m.items m.ending ∷ is) ≡ r ∷ rs
told_texts m r rs is e k = ap (λ x. x ∷ map bare is) (told_plain m.items m.ending ∙ sym e) ∙ ap (λ l. r ∷ l) k

with_texts : (cs : List PileCall) (m : Meaning Item) (xs : List (Result (Option Piece) ReadFault)) → AllTold (plain m) cs xs → (is : List Answer) × (map bare is ≡ xs) × AllTold m cs is
unfolding AllTold
with_texts [] m [] h = ([], refl, tt)
with_texts [] m (r ∷ rs) h = absurd h
with_texts (c ∷ cs) m [] h = absurd h
with_texts (c ∷ cs) m (r ∷ rs) (n, h, k) =
    let e = tells_is c (plain m) n r h in
    let l : Meaning Item = record { items = left_by c m.items; ending = m.ending } in
    let w = with_texts cs l rs (subst (λ y. AllTold y cs rs) (same_meaning n (pieces_in l.items) m.ending (e.1 ∙ sym (left_plain c m.items)) e.2) k) in
    (told_by m.items m.ending ∷ w.0, told_texts m r rs w.0 e.0 w.1, (l, is_told c m, w.2))

-- the answers of calls on a pile over a reader have their texts
pub texts_of : (os : List Opening) (s : Config) (t : List ℕ) (v : View) (ls : List Layer) (cs : List PileCall) (xs : List (Result (Option Piece) ReadFault))
    → AllTold (pile_over of_pieces ls (reads os s v)) cs xs → (is : List Answer) × WithTexts ls (meaning_of os s t v) cs xs is
texts_of os s t v ls cs xs h =
    let w = with_texts cs (pile_over of_items ls (meaning_of os s t v)) xs (subst (λ m. AllTold m cs xs) (sym (reads_plain os s t v ls)) h) in
    (w.0, (w.1, w.2))
