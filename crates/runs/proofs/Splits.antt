-- At a resting point the bytes to come say all: what is left of them and what is cut.
use Rattle.std.proofs.Common.{◌≡◌, ℕ, zero, suc, ◌+◌, ◌-◌, ◌<◌, ◌≤◌, Bool, true, false, not, ◌&&◌, eqb, List, [], ◌∷◌, length, get_or, take, drop, sym, refl, ap, ◌∙◌, subst, inl, inr, arith, add-one}
use Rattle.std.proofs.lemmas.List.{drop-drop, drop-take, take_more}
use Rattle.std.proofs.lemmas.Bool.{both_ways, and_parts, eqb-true}
use Rattle.finder.specs.Finding.{Opening}
use Rattle.places.specs.Places.{beyond, past, first_place}
use Rattle.places.proofs.Advances.{beyond_append}
use Rattle.rules.specs.declared.LexerState.{LexerState}
use Rattle.rules.specs.declared.LexerState.TheVariants.{Template, Inside, Over}
use Rattle.rules.specs.declared.Pending.{Pending}
use Rattle.rules.specs.declared.Pending.TheVariants.{Nothing, Trim, Tail, Marker, RawBody, RawClose}
use Rattle.rules.specs.At.{place_at}
use Rattle.rules.specs.Bytes.{behind_at}
use Rattle.rules.specs.Config.{Config}
use Rattle.rules.specs.Reading.{chop, left_len}
use Rattle.rules.specs.State.{Core}
use Rattle.rules.proofs.Whole.{place_offset}
use Rattle.syntax.specs.Building.{is_empty}
use Rattle.reader.specs.Views.{View}
use Rattle.reader.specs.Rests.{in_text, nothing_waits, failed, rests}
use Rattle.runs.proofs.Reached.{left_now, left_le, now_le, Reached}
use Rattle.runs.proofs.Covered.{Any, AnyKind}
use Rattle.reader.specs.Rests.{AtFront}
use Rattle.reader.proofs.Fronts.{front_of}

-- the cut of what is behind a byte is that of the whole, if the byte is left
chop_one : (b x : ℕ) → length (chop b (x ∷ [])) ≤ 1
unfolding chop
chop_one b x = elim (eqb x b) as (λ r. length (elim r as (λ _. List ℕ) [ true ↦ [] | false ↦ x ∷ [] ]) ≤ 1) [ true ↦ omega arith | false ↦ omega arith ]

chop_some : (x : ℕ) (ys zs : List ℕ) → chop 10 ys ≡ zs → 1 ≤ length (chop 13 (x ∷ zs)) → length (chop 13 (x ∷ zs)) ≡ suc (length (chop 13 zs))
unfolding chop
chop_some x ys [] e h = let o = chop_one 13 x in omega arith
chop_some x ys (z ∷ zs) e h = omega arith

chop_next : (x : ℕ) (xs : List ℕ) → 1 ≤ length (chop 13 (chop 10 (x ∷ xs))) → length (chop 13 (chop 10 (x ∷ xs))) ≡ suc (length (chop 13 (chop 10 xs)))
unfolding chop
chop_next x [] h = chop_single (eqb x 10) refl h
  where
    chop_single : (b : Bool) → eqb x 10 ≡ b → 1 ≤ length (chop 13 (elim b as (λ _. List ℕ) [ true ↦ [] | false ↦ x ∷ [] ])) → length (chop 13 (elim b as (λ _. List ℕ) [ true ↦ [] | false ↦ x ∷ [] ])) ≡ 1
    chop_single true e k = absurd (omega arith)
    chop_single false e k = let o = chop_one 13 x in omega arith
chop_next x (y ∷ ys) h = chop_some x (y ∷ ys) (chop 10 (y ∷ ys)) refl h

left_next : (s : Config) (x : ℕ) (xs : List ℕ) → 1 ≤ left_len s (x ∷ xs) → left_len s (x ∷ xs) ≡ suc (left_len s xs)
left_next s x xs h = by s.keep_trailing refl
  where
    by : (k : Bool) → s.keep_trailing ≡ k → left_len s (x ∷ xs) ≡ suc (left_len s xs)
    by true e = ap (λ k. elim k as (λ _. ℕ) [ true ↦ length (x ∷ xs) | false ↦ length (chop 13 (chop 10 (x ∷ xs))) ]) e ∙ sym (ap (λ k. suc (elim k as (λ _. ℕ) [ true ↦ length xs | false ↦ length (chop 13 (chop 10 xs)) ])) e)
    by false e =
        let a : left_len s (x ∷ xs) ≡ length (chop 13 (chop 10 (x ∷ xs))) = ap (λ k. elim k as (λ _. ℕ) [ true ↦ length (x ∷ xs) | false ↦ length (chop 13 (chop 10 (x ∷ xs))) ]) e in
        let b : left_len s xs ≡ length (chop 13 (chop 10 xs)) = ap (λ k. elim k as (λ _. ℕ) [ true ↦ length xs | false ↦ length (chop 13 (chop 10 xs)) ]) e in
        a ∙ chop_next x xs (subst (λ n. 1 ≤ n) a h) ∙ ap suc (sym b)

-- what the cut leaves of the bytes from a place on, if the place is left
pub left_drop : (s : Config) (i : ℕ) (t : List ℕ) → i ≤ left_len s t → left_len s (drop i t) ≡ left_len s t - i
left_drop s zero t h = omega arith
left_drop s (suc i) [] h = absurd (let l = left_le s [] in omega arith)
left_drop s (suc i) (x ∷ xs) h =
    let e = left_next s x xs (omega arith) in
    left_drop s i xs (omega arith) ∙ omega arith

-- equal bytes from two places on are left and cut alike
module _ (s : Config) (t u : List ℕ) (i j : ℕ) (h : i ≤ left_len s t) (k : j ≤ left_len s u) (same : drop i t ≡ drop j u) where
  same_left : left_len s t - i ≡ left_len s u - j
  same_left = sym (left_drop s i t h) ∙ ap (left_len s) same ∙ left_drop s j u k

  left_part : (t : List ℕ) (i : ℕ) → i ≤ left_len s t → drop i (take (left_len s t) t) ≡ take (left_len s t - i) (drop i t)
  left_part t i h = let z : i + (left_len s t - i) ≡ left_len s t = omega arith in ap (λ m. drop i (take m t)) (sym z) ∙ drop-take i (left_len s t - i) t

  cut_part_of : (t : List ℕ) (i : ℕ) → i ≤ left_len s t → drop (left_len s t) t ≡ drop (left_len s t - i) (drop i t)
  cut_part_of t i h = let z : i + (left_len s t - i) ≡ left_len s t = omega arith in ap (λ m. drop m t) (sym z) ∙ sym (drop-drop (left_len s t - i) i t)

  pub same_ahead : drop i (take (left_len s t) t) ≡ drop j (take (left_len s u) u)
  same_ahead = left_part t i h ∙ ap (λ n. take n (drop i t)) same_left ∙ ap (take (left_len s u - j)) same ∙ sym (left_part u j k)

  pub same_cut : drop (left_len s t) t ≡ drop (left_len s u) u
  same_cut = cut_part_of t i h ∙ ap (λ n. drop n (drop i t)) same_left ∙ ap (drop (left_len s u - j)) same ∙ sym (cut_part_of u j k)

-- one place further
place_next : (t : List ℕ) (i : ℕ) → i < length t → place_at t (suc i) ≡ past (get_or t i 0) (place_at t i)
unfolding beyond
place_next t i h = ap (place_at t) (sym (add-one i)) ∙ ap (λ l. beyond l first_place) (take_more t i 0 h) ∙ beyond_append (take i t) (get_or t i 0 ∷ []) first_place

front_by : (t : List ℕ) (i : ℕ) → i ≤ length t → AtFront t i → (place_at t i).column ≡ 0
unfolding beyond
front_by t zero h f = refl
front_by t (suc i) h (inl e) = absurd (omega arith)
front_by t (suc i) h (inr e) =
    let z : suc i - 1 ≡ i = omega arith in
    ap (λ p. p.column) (place_next t i h) ∙ ap (λ x. (past x (place_at t i)).column) (ap (λ k. get_or t k 0) (sym z) ∙ e.1)

-- where nothing is behind a line begins
pub front_column : (t : List ℕ) (i : ℕ) → i ≤ length t → behind_at t i ≡ [] → (place_at t i).column ≡ 0
front_column t i h e = front_by t i h (front_of t i h e)

-- what a resting point says
pub record AtRest (v : View) : Type 0 where
  pub state : v.core.state ≡ Template
  pub pending : v.core.pending ≡ Nothing
  pub unfailed : failed v.told ≡ false
  pub cut_untold : v.core.cut_told ≡ false
  pub behind : v.core.behind ≡ []

is_template : (m : LexerState) → in_text m ≡ true → m ≡ Template
is_template Template h = refl
is_template (Inside k b) h = absurd (both_ways false refl h)
is_template Over h = absurd (both_ways false refl h)

is_nothing : (w : Pending) → nothing_waits w ≡ true → w ≡ Nothing
is_nothing Nothing h = refl
is_nothing Trim h = absurd (both_ways false refl h)
is_nothing (Tail n) h = absurd (both_ways false refl h)
is_nothing (Marker m g n) h = absurd (both_ways false refl h)
is_nothing (RawBody g) h = absurd (both_ways false refl h)
is_nothing (RawClose n g) h = absurd (both_ways false refl h)

is_false : (b : Bool) → not b ≡ true → b ≡ false
is_false true h = absurd (both_ways false refl h)
is_false false h = refl

is_none : (xs : List ℕ) → is_empty xs ≡ true → xs ≡ []
is_none [] h = refl
is_none (x ∷ xs) h = absurd (let z = eqb-true (length (x ∷ xs)) 0 h in omega arith)

pub at_rest : (v : View) → rests v ≡ true → AtRest v
at_rest v h =
    let a = and_parts (in_text v.core.state && nothing_waits v.core.pending && not (failed v.told) && not v.core.cut_told) (is_empty v.core.behind) h in
    let b = and_parts (in_text v.core.state && nothing_waits v.core.pending && not (failed v.told)) (not v.core.cut_told) a.0 in
    let c = and_parts (in_text v.core.state && nothing_waits v.core.pending) (not (failed v.told)) b.0 in
    let d = and_parts (in_text v.core.state) (nothing_waits v.core.pending) c.0 in
    record {
      state = is_template v.core.state d.0;
      pending = is_nothing v.core.pending d.1;
      unfailed = is_false (failed v.told) c.1;
      cut_untold = is_false v.core.cut_told b.1;
      behind = is_none v.core.behind a.1;
    }

pub core_rest : (c : Core) → c.behind ≡ [] → c.state ≡ Template → c.pending ≡ Nothing → c.cut_told ≡ false
    → ◌≡◌ {A = Core} c (record { behind = []; ahead = c.ahead; cut = c.cut; state = Template; pending = Nothing; cut_told = false })
core_rest c b m w e =
    let f : List ℕ → LexerState → Pending → Bool → Core = λ x y z o. record { behind = x; ahead = c.ahead; cut = c.cut; state = y; pending = z; cut_told = o } in
    ap (λ x. f x c.state c.pending c.cut_told) b ∙ ap (λ y. f [] y c.pending c.cut_told) m ∙ ap (λ z. f [] Template z c.cut_told) w ∙ ap (f [] Template Nothing) e

-- a view that a run can reach stands where its place says
pub offset_at : (os : List Opening) (s : Config) (t : List ℕ) (v : View) (r : Reached os s t Any AnyKind v) → v.place.offset ≡ r.at
offset_at os s t v r =
    let n = now_le s t r.cut_told in
    let b = r.inside in
    ap (λ p. p.offset) r.place ∙ place_offset t r.at (omega arith)

-- where it rests the cut is ahead
module _ (os : List Opening) (s : Config) (t : List ℕ) (v : View) (r : Reached os s t Any AnyKind v) (a : AtRest v) where
  uncut : r.cut_told ≡ false
  uncut = sym (ap (λ c. c.cut_told) r.core) ∙ a.cut_untold

  now_left : left_now s t r.cut_told ≡ left_len s t
  now_left = ap (left_now s t) uncut

  pub rest_within : r.at ≤ left_len s t
  rest_within = let b = r.inside in let e = now_left in omega arith

  pub rest_ahead : v.core.ahead ≡ drop r.at (take (left_len s t) t)
  rest_ahead = ap (λ c. c.ahead) r.core ∙ ap (λ n. drop r.at (take n t)) now_left

  pub rest_cut : v.core.cut ≡ drop (left_len s t) t
  rest_cut = ap (λ c. c.cut) r.core ∙ ap (λ n. drop n t) now_left

  pub rest_column : v.place.column ≡ 0
  rest_column =
      let l = left_le s t in
      let h = rest_within in
      ap (λ p. p.column) r.place ∙ front_column t r.at (omega arith) (sym (ap (λ c. c.behind) r.core) ∙ a.behind)

-- two resting views with the same bytes to come have one state
pub same_core : (os : List Opening) (s : Config) (t u : List ℕ) (v w : View) (r : Reached os s t Any AnyKind v) (q : Reached os s u Any AnyKind w) → AtRest v → AtRest w → drop r.at t ≡ drop q.at u → v.core ≡ w.core
same_core os s t u v w r q a b e =
    let h = rest_within os s t v r a in
    let k = rest_within os s u w q b in
    let x : v.core.ahead ≡ w.core.ahead = rest_ahead os s t v r a ∙ same_ahead s t u r.at q.at h k e ∙ sym (rest_ahead os s u w q b) in
    let y : v.core.cut ≡ w.core.cut = rest_cut os s t v r a ∙ same_cut s t u r.at q.at h k e ∙ sym (rest_cut os s u w q b) in
    let f : List ℕ → List ℕ → Core = λ l c. record { behind = []; ahead = l; cut = c; state = Template; pending = Nothing; cut_told = false } in
    core_rest v.core a.behind a.state a.pending a.cut_untold ∙ ap (λ l. f l v.core.cut) x ∙ ap (f w.core.ahead) y ∙ sym (core_rest w.core b.behind b.state b.pending b.cut_untold)
