-- No earlier text reaches past a resting point.
use Rattle.std.proofs.Common.{◌≡◌, ℕ, ◌≤◌, false, List, [], length, take, drop, Some, None, Ok, Err, Option, sym, refl, ap, ◌∙◌, arith}
use Rattle.std.proofs.lemmas.List.{length-take, drop_all}
use Rattle.std.proofs.lemmas.Bool.{both_ways}
use Rattle.finder.specs.Finding.{Opening}
use Rattle.stream.specs.Told.{Ending}
use Rattle.pieces.specs.declared.fault.ReadFault.{ReadFault}
use Rattle.rules.specs.declared.LexerState.TheVariants.{Template}
use Rattle.rules.specs.declared.Pending.TheVariants.{Nothing}
use Rattle.rules.specs.Config.{Config, Ended}
use Rattle.rules.specs.Reading.{Done, Stops, call, left_len}
use Rattle.rules.specs.Shapes.{level}
use Rattle.rules.specs.Texts.{text, text_verdict}
use Rattle.rules.proofs.Lawful.{Apart as Distinct}
use Rattle.reader.specs.Views.{View}
use Rattle.reader.specs.Rests.{failed}
use Rattle.runs.specs.Piles.{pile_over, of_items, has_shift, meaning_of}
use Rattle.runs.specs.Resting.{Amounts, Run, behind_run, Resting}
use Rattle.runs.proofs.Covered.{reached_run}
use Rattle.runs.proofs.Splits.{AtRest, at_rest, core_rest, offset_at, rest_within, rest_ahead, rest_cut, rest_column, same_core}
use Rattle.runs.proofs.Pairs.{Stands, TellsApart, Both, replies_agree, meanings_apart}
use Rattle.runs.proofs.Piles.{pile_apart, calls_agree}
use Rattle.runs.proofs.Bare.{texts_of}

-- in text with nothing ahead and nothing cut a reading is finished
none_done : (os : List Opening) (s : Config) → call os s (record { behind = []; ahead = []; cut = []; state = Template; pending = Nothing; cut_told = false }) ≡ Stops Done
unfolding text_verdict text
none_done os s = refl

-- a resting point at the template's end
done_here : (os : List Opening) (s : Config) (t : List ℕ) (v : View) (r : Stands os s t v) → AtRest v → r.at ≡ length t → call os s v.core ≡ Stops Done
done_here os s t v r a e =
    let h = rest_within os s t v r a in
    let l = length-take (left_len s t) t in
    let x : v.core.ahead ≡ [] = rest_ahead os s t v r a ∙ drop_all r.at (take (left_len s t) t) (omega arith) in
    let y : v.core.cut ≡ [] = rest_cut os s t v r a ∙ drop_all (left_len s t) t (omega arith) in
    ap (call os s)
    (core_rest v.core a.behind a.state a.pending a.cut_untold
    ∙ ap (λ z. record { behind = []; ahead = z; cut = v.core.cut; state = Template; pending = Nothing; cut_told = false }) x
    ∙ ap (λ z. record { behind = []; ahead = []; cut = z; state = Template; pending = Nothing; cut_told = false }) y)
    ∙ none_done os s

module _ (os : List Opening) (s : Config) (ends : Ended s) (apart : Distinct os) (t u : List ℕ) (small : length t ≤ 16777216) (other_small : length u ≤ 16777216) (v w : View) (r : Stands os s t v) (q : Stands os s u w) (a : AtRest v) (b : AtRest w) where
  -- how far apart the two places are
  pub amounts : Amounts
  amounts = record { line = v.place.line; other_line = w.place.line; offset = v.place.offset; other_offset = w.place.offset }

  rest_tells : v.core ≡ w.core → (o p : Option (Ending ReadFault)) → v.told ≡ o → w.told ≡ p → TellsApart os s ends apart t u small other_small amounts v w o p
  rest_tells e None None h k = tt
  rest_tells e None (Some (Ok y)) h k = ap (call os s) e ∙ done_here os s u w q b (q.finished k)
  rest_tells e None (Some (Err g)) h k = absurd (both_ways (failed w.told) b.unfailed (ap failed k))
  rest_tells e (Some (Ok x)) None h k = ap (call os s) (sym e) ∙ done_here os s t v r a (r.finished h)
  rest_tells e (Some (Err f)) None h k = absurd (both_ways (failed v.told) a.unfailed (ap failed h))
  rest_tells e (Some (Ok x)) (Some (Ok y)) h k = tt
  rest_tells e (Some (Ok x)) (Some (Err g)) h k = absurd (both_ways (failed w.told) b.unfailed (ap failed k))
  rest_tells e (Some (Err f)) p h k = absurd (both_ways (failed v.told) a.unfailed (ap failed h))

  pub both_rest : drop v.place.offset t ≡ drop w.place.offset u → Both os s ends apart t u small other_small amounts v w
  unfolding amounts
  both_rest e =
      let x : drop r.at t ≡ drop q.at u = ap (λ n. drop n t) (sym (offset_at os s t v r)) ∙ e ∙ ap (λ n. drop n u) (offset_at os s u w q) in
      let c : v.core ≡ w.core = same_core os s t u v w r q a b x in
      let z : v.place.column ≡ w.place.column = rest_column os s t v r a ∙ sym (rest_column os s u w q b) in (
        record {
          here = r;
          there = q;
          core = c;
          same = e;
          level = record { down = 0; line = omega arith; other_line = omega arith; column = z; on = 0; offset = omega arith; other_offset = omega arith };
        },
        rest_tells c v.told w.told refl refl,
      )

-- two runs that come to resting points with the same bytes behind them tell the same from there on
pub resting_runs : (os : List Opening) (s : Config) → Ended s → Distinct os → (r q : Run) → level r.state ≡ 0 → level q.state ≡ 0 → length r.template ≤ 16777216 → length q.template ≤ 16777216 → Resting os s r q
resting_runs os s ends apart r q h k small other_small b =
    let t : List ℕ = r.template in
    let u : List ℕ = q.template in
    let v : View = behind_run s r in
    let w : View = behind_run s q in
    let x : Stands os s t v = reached_run os s t ends apart small r.state h r.calls b.lawful in
    let y : Stands os s u w = reached_run os s u ends apart other_small q.state k q.calls b.other_lawful in
    let f : AtRest v = at_rest v b.here in
    let g : AtRest w = at_rest w b.other_here in
    let d : Amounts = amounts os s ends apart t u small other_small v w x y f g in
    let z : Both os s ends apart t u small other_small d v w = both_rest os s ends apart t u small other_small v w x y f g b.same in (
      d,
      λ cs l. replies_agree os s ends apart t u small other_small d cs l v w z,
      λ ls cs xs ys p q.
          let m = meaning_of os s t v in
          let n = meaning_of os s u w in
          let a = texts_of os s t v ls cs xs p in
          let b = texts_of os s u w ls cs ys q in
          let k = pile_apart ls d m n (meanings_apart os s ends apart t u small other_small d v w z) in
          (a.0, b.0, a.1, b.1, calls_agree (has_shift ls) d cs (pile_over of_items ls m) (pile_over of_items ls n) a.0 b.0 k a.1.1 b.1.1),
    )
