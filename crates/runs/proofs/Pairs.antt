-- Two readers in one state, whose templates are the same from there on: their calls and their meanings.
use Rattle.std.proofs.Common.{◌≡◌, ℕ, zero, suc, ◌+◌, ◌-◌, ◌≤◌, min, Bool, false, not, ◌&&◌, List, [], ◌∷◌, map, length, take, drop, Some, None, Ok, Err, Option, sym, refl, ap, ◌∙◌, subst, arith}
use Rattle.std.proofs.lemmas.List.{drop-drop}
use Rattle.finder.specs.Finding.{Opening}
use Rattle.stream.specs.Told.{Ending}
use Rattle.syntax.specs.Building.{is_empty}
use Rattle.places.specs.Places.{beyond, offset_cap}
use Rattle.places.proofs.Advances.{beyond_offset}
use Rattle.pieces.specs.declared.fault.ReadFault.{ReadFault}
use Rattle.pieces.specs.declared.piece.Piece.{Piece}
use Rattle.rules.specs.Config.{Config, Ended}
use Rattle.rules.specs.Reading.{Part, Parts, Stop, Done, Outcome, Gives, Stops, call, first, only, reading, measure, meaning}
use Rattle.rules.specs.State.{Core}
use Rattle.rules.specs.Told.{placed, pieces, behind, ended, ending}
use Rattle.rules.proofs.Lawful.{Apart as Distinct}
use Rattle.reader.specs.Views.{View, Told as Tells, told_as, tell_by, tell}
use Rattle.reader.proofs.Tells.{told_before, told_now, same_tell}
use Rattle.runs.specs.declared.Reply.TheVariants.{Told}
use Rattle.reader.specs.Rests.{in_text, nothing_waits, failed, rests}
use Rattle.runs.specs.declared.Ask.TheVariants.{Next, Rest}
use Rattle.runs.specs.Calls.{Asked, reply, behind_call, replies, LawfulCall, AllLawful}
use Rattle.runs.specs.Whole.{piece_of, Along}
use Rattle.runs.specs.Piles.{Meaning, Item, item_in, meaning_of}
use Rattle.runs.specs.Resting.{Amounts, AnswersAgree, AllAgree, answer_in, RepliesAgree}
use Rattle.runs.proofs.Reached.{now_le, Reached, Lies, along_call}
use Rattle.runs.proofs.Covered.{Any, AnyKind}
use Rattle.runs.proofs.Amounts.{ItemsApart, EndsApart, Level, items_agree, faults_agree, beyond_level, capped_apart, offset_apart, ended_apart}
use Rattle.runs.proofs.Piles.{MeaningsApart}

-- a view of a template that a run can reach
abbrev pub Stands : List Opening → Config → List ℕ → View → Type 0
Stands os s t v = Reached os s t Any AnyKind v

module _ (os : List Opening) (s : Config) (ends : Ended s) (apart : Distinct os) where
  -- an answer leads on to such a view
  abbrev Leads : List ℕ → ℕ → Tells → Type 0
  Leads t i x = (q : Stands os s t x.after) × Along (Lies os s t Any AnyKind) i (piece_of (Told x.answer)) q.at

  leads : (t : List ℕ) → length t ≤ 16777216 → (v : View) (r : Stands os s t v) → Leads t r.at (tell os s v)
  leads t small v r = along_call os s t Any AnyKind ends small (λ i m w p b c d e. (tt, tt)) (λ c. tt) apart (Next os) (λ o. (λ h. h, λ h. h)) v r

  -- the text of a piece is told where it is
  text_told : (t : List ℕ) → length t ≤ 16777216 → (v : View) (r : Stands os s t v) (p : Part) (c : Core) → Leads t r.at (tell_by v (Gives p c))
      → (min (v.place.offset + p.from) offset_cap ≡ v.place.offset + p.from) × (min (v.place.offset + p.to) offset_cap ≡ v.place.offset + p.to)
  unfolding Along
  text_told t small v r p c l =
      let n = now_le s t l.0.cut_told in
      let b = l.0.inside in
      let e = l.1.3 in
      let x = l.1.2.0 in
      (omega (arith, x.2, x.3), omega (arith, x.2, x.3))

  module _ (t u : List ℕ) (small : length t ≤ 16777216) (other_small : length u ≤ 16777216) (d : Amounts) where
    -- two views in one state, with the same bytes from there on
    pub record Pair (v w : View) : Type 0 where
      pub here : Stands os s t v
      pub there : Stands os s u w
      pub core : v.core ≡ w.core
      pub same : drop v.place.offset t ≡ drop w.place.offset u
      pub level : Level d v.place w.place

    same_on : (o p n : ℕ) → drop o t ≡ drop p u → drop (o + n) t ≡ drop (p + n) u
    same_on o p n e = sym (drop-drop n o t) ∙ ap (drop n) e ∙ drop-drop n p u

    same_text : (o p a b m n k l : ℕ) → drop o t ≡ drop p u → m ≡ o + a → n ≡ o + b → k ≡ p + a → l ≡ p + b → take (n - m) (drop m t) ≡ take (l - k) (drop k u)
    same_text o p a b m n k l e f g h i =
        let z : n - m ≡ l - k = omega arith in
        ap (λ j. take j (drop m t)) z ∙ ap (λ j. take (l - k) (drop j t)) f ∙ ap (take (l - k)) (same_on o p a e) ∙ ap (λ j. take (l - k) (drop j u)) (sym h)

    gives_item : (v w : View) (h : Pair v w) (p : Part) (c : Core) → Leads t h.here.at (tell_by v (Gives p c)) → Leads u h.there.at (tell_by w (Gives p c)) → ItemsApart false d (item_in t (placed v.place p)) (item_in u (placed w.place p))
    gives_item v w h p c a b =
        let x = text_told t small v h.here p c a in
        let y = text_told u other_small w h.there p c b in
        record {
          kind = refl;
          text = same_text v.place.offset w.place.offset p.from p.to (min (v.place.offset + p.from) offset_cap) (min (v.place.offset + p.to) offset_cap) (min (w.place.offset + p.from) offset_cap) (min (w.place.offset + p.to) offset_cap) h.same x.0 x.1 y.0 y.1;
          value = refl;
          start = capped_apart d v.place w.place h.level;
          finish = capped_apart d (beyond p.bytes v.place) (beyond p.bytes w.place) (beyond_level d p.bytes v.place w.place h.level);
          from = offset_apart d v.place w.place p.from h.level;
          to = offset_apart d v.place w.place p.to h.level;
        }

    gives_pair : (v w : View) (h : Pair v w) (p : Part) (c : Core) → Leads t h.here.at (tell_by v (Gives p c)) → Leads u h.there.at (tell_by w (Gives p c)) → Pair (tell_by v (Gives p c)).after (tell_by w (Gives p c)).after
    gives_pair v w h p c a b = record {
      here = a.0;
      there = b.0;
      core = refl;
      same = ap (λ n. drop n t) (beyond_offset p.bytes v.place) ∙ same_on v.place.offset w.place.offset (length p.bytes) h.same ∙ ap (λ n. drop n u) (sym (beyond_offset p.bytes w.place));
      level = beyond_level d p.bytes v.place w.place h.level;
    }

    stops_pair : (v w : View) (h : Pair v w) (e : Stop) → Leads t h.here.at (tell_by v (Stops e)) → Leads u h.there.at (tell_by w (Stops e)) → Pair (tell_by v (Stops e)).after (tell_by w (Stops e)).after
    stops_pair v w h e a b = record { here = a.0; there = b.0; core = h.core; same = h.same; level = h.level }

    -- an ending that one reader told and the other did not: it finished, and the other will
    abbrev pub Only : View → Ending ReadFault → Type 0
    Only v (Ok x) = call os s v.core ≡ Stops Done
    Only v (Err f) = ⊥

    abbrev pub TellsApart : View → View → Option (Ending ReadFault) → Option (Ending ReadFault) → Type 0
    TellsApart v w None None = Unit {0}
    TellsApart v w None (Some f) = Only v f
    TellsApart v w (Some e) None = Only w e
    TellsApart v w (Some e) (Some f) = EndsApart false d e f

    abbrev pub Both : View → View → Type 0
    Both v w = Pair v w × TellsApart v w v.told w.told

    abbrev BothTell : Tells → Tells → Type 0
    BothTell x y = AnswersAgree false d (answer_in t x.answer) (answer_in u y.answer) × Pair x.after y.after × TellsApart x.after y.after x.after.told y.after.told

    ends_tell : (e f : Ending ReadFault) → EndsApart false d e f → AnswersAgree false d (answer_in t (told_as e)) (answer_in u (told_as f))
    ends_tell (Ok x) (Ok y) h = tt
    ends_tell (Ok x) (Err g) h = absurd h
    ends_tell (Err f) (Ok y) h = absurd h
    ends_tell (Err f) (Err g) h = faults_agree false d f g h

    by_call : (v w : View) (h : Pair v w) (r : Outcome) → Leads t h.here.at (tell_by v r) → Leads u h.there.at (tell_by w r) → BothTell (tell_by v r) (tell_by w r)
    by_call v w h (Gives p c) a b = (items_agree false d (item_in t (placed v.place p)) (item_in u (placed w.place p)) (gives_item v w h p c a b), gives_pair v w h p c a b, tt)
    by_call v w h (Stops e) a b =
        let k = ended_apart d e v.place w.place h.level in
        (ends_tell (ended v.place e) (ended w.place e) k, stops_pair v w h e a b, k)

    -- where neither told an ending both do the same
    now_here : (v w : View) → Pair v w → v.told ≡ None → tell os s v ≡ tell_by v (call os s v.core)
    now_here v w h e = told_now os s v e

    now_there : (v w : View) → Pair v w → w.told ≡ None → tell os s w ≡ tell_by w (call os s v.core)
    now_there v w h e = told_now os s w e ∙ ap (λ c. tell_by w (call os s c)) (sym h.core)

    leads_here : (v w : View) (h : Pair v w) → v.told ≡ None → Leads t h.here.at (tell_by v (call os s v.core))
    leads_here v w h e = subst (Leads t h.here.at) (now_here v w h e) (leads t small v h.here)

    leads_there : (v w : View) (h : Pair v w) → w.told ≡ None → Leads u h.there.at (tell_by w (call os s v.core))
    leads_there v w h e = subst (Leads u h.there.at) (now_there v w h e) (leads u other_small w h.there)

    -- one told that it is finished, and the other tells it now
    late : (v w : View) (h : Pair v w) (e : Ending ReadFault) → v.told ≡ Some e → w.told ≡ None → Only w e → BothTell (record { answer = told_as e; after = v }) (tell os s w)
    late v w h (Ok x) a b k =
        let q : tell os s w ≡ tell_by w (Stops Done) = told_now os s w b ∙ ap (tell_by w) k in
        let l : Leads u h.there.at (tell_by w (Stops Done)) = subst (Leads u h.there.at) q (leads u other_small w h.there) in
        subst (λ y. BothTell (record { answer = Ok None; after = v }) y) (sym q) (
          tt,
          record { here = h.here; there = l.0; core = h.core; same = h.same; level = h.level },
          subst (λ o. TellsApart v (tell_by w (Stops Done)).after o (Some (Ok tt))) (sym a) tt,
        )
    late v w h (Err f) a b k = absurd k

    early : (v w : View) (h : Pair v w) (e : Ending ReadFault) → v.told ≡ None → w.told ≡ Some e → Only v e → BothTell (tell os s v) (record { answer = told_as e; after = w })
    early v w h (Ok x) a b k =
        let q : tell os s v ≡ tell_by v (Stops Done) = told_now os s v a ∙ ap (tell_by v) k in
        let l : Leads t h.here.at (tell_by v (Stops Done)) = subst (Leads t h.here.at) q (leads t small v h.here) in
        subst (λ y. BothTell y (record { answer = Ok None; after = w })) (sym q) (
          tt,
          record { here = l.0; there = h.there; core = h.core; same = h.same; level = h.level },
          subst (λ o. TellsApart (tell_by v (Stops Done)).after w (Some (Ok tt)) o) (sym b) tt,
        )
    early v w h (Err f) a b k = absurd k

    both_by : (v w : View) (h : Pair v w) (o p : Option (Ending ReadFault)) → v.told ≡ o → w.told ≡ p → TellsApart v w o p → BothTell (tell os s v) (tell os s w)
    both_by v w h None None a b k =
        subst (λ x. BothTell x (tell os s w)) (sym (now_here v w h a))
        (subst (λ y. BothTell (tell_by v (call os s v.core)) y) (sym (now_there v w h b)) (by_call v w h (call os s v.core) (leads_here v w h a) (leads_there v w h b)))
    both_by v w h None (Some f) a b k = subst (λ y. BothTell (tell os s v) y) (sym (told_before os s w f b)) (early v w h f a b k)
    both_by v w h (Some e) None a b k = subst (λ x. BothTell x (tell os s w)) (sym (told_before os s v e a)) (late v w h e a b k)
    both_by v w h (Some e) (Some f) a b k =
        subst (λ x. BothTell x (tell os s w)) (sym (told_before os s v e a))
        (subst (λ y. BothTell (record { answer = told_as e; after = v }) y) (sym (told_before os s w f b)) (
          ends_tell e f k,
          h,
          subst (λ o. TellsApart v w o w.told) (sym a) (subst (λ o. TellsApart v w (Some e) o) (sym b) k),
        ))

    -- both rest or neither does
    same_failed : (v w : View) (o p : Option (Ending ReadFault)) → TellsApart v w o p → failed o ≡ failed p
    same_failed v w None None h = refl
    same_failed v w None (Some (Ok y)) h = refl
    same_failed v w None (Some (Err g)) h = absurd h
    same_failed v w (Some (Ok x)) None h = refl
    same_failed v w (Some (Err f)) None h = absurd h
    same_failed v w (Some (Ok x)) (Some (Ok y)) h = refl
    same_failed v w (Some (Ok x)) (Some (Err g)) h = absurd h
    same_failed v w (Some (Err f)) (Some (Ok y)) h = absurd h
    same_failed v w (Some (Err f)) (Some (Err g)) h = refl

    same_rests : (v w : View) → Both v w → rests v ≡ rests w
    same_rests v w h =
        let f : Core → Bool → Bool = λ c b. in_text c.state && nothing_waits c.pending && not b && not c.cut_told && is_empty c.behind in
        ap (λ c. f c (failed v.told)) h.0.core ∙ ap (f w.core) (same_failed v w v.told w.told h.1)

    both_call : (c : Asked) → LawfulCall os c → (v w : View) → Both v w → RepliesAgree d t u (reply s v c) (reply s w c) × Pair (behind_call s v c) (behind_call s w c) × TellsApart (behind_call s v c) (behind_call s w c) (behind_call s v c).told (behind_call s w c).told
    both_call (Next ps) l v w h =
        subst (λ x. BothTell x (tell ps s w)) (sym (same_tell ps os apart l s v))
        (subst (λ y. BothTell (tell os s v) y) (sym (same_tell ps os apart l s w)) (both_by v w h.0 v.told w.told refl refl h.1))
    both_call Rest l v w h = (same_rests v w h, h.0, h.1)

    -- any calls tell the same on both sides, but for the amounts
    pub replies_agree : (cs : List Asked) → AllLawful os cs → (v w : View) → Both v w → AllAgree (RepliesAgree d t u) (replies s v cs) (replies s w cs)
    unfolding AllAgree replies
    replies_agree [] l v w h = tt
    replies_agree (c ∷ cs) l v w h =
        let a = both_call c l.0 v w h in
        (a.0, replies_agree cs l.1 (behind_call s v c) (behind_call s w c) (a.1, a.2))

    -- what the readings mean

    abbrev Reads : ℕ → List ℕ → View → Meaning Item
    Reads n t v = record { items = map (item_in t) (pieces v.place (reading n os s v.core).parts); ending = ending v.place (reading n os s v.core) }

    abbrev Goes : ℕ → List ℕ → View → Outcome → Meaning Item
    Goes n t v r = record {
      items = map (item_in t) (pieces v.place (elim r as (λ _. Parts) [ Gives p c ↦ first p (reading n os s c) | Stops e ↦ only e ]).parts);
      ending = ending v.place (elim r as (λ _. Parts) [ Gives p c ↦ first p (reading n os s c) | Stops e ↦ only e ]);
    }

    reads_apart : (n : ℕ) (v w : View) → Pair v w → v.told ≡ None → w.told ≡ None → MeaningsApart false d (Reads n t v) (Reads n u w)
    unfolding reading pieces behind AllAgree
    reads_apart zero v w h a b = record { items = tt; ending = tt }
    reads_apart (suc n) v w h a b =
        subst (λ c. MeaningsApart false d (Goes n t v (call os s v.core)) (Goes n u w (call os s c))) h.core
        (goes (call os s v.core) (λ x y k. reads_apart n x y k) (leads_here v w h a) (leads_there v w h b))
      where
        goes : (r : Outcome) → ((x y : View) → Pair x y → x.told ≡ None → y.told ≡ None → MeaningsApart false d (Reads n t x) (Reads n u y))
            → Leads t h.here.at (tell_by v r) → Leads u h.there.at (tell_by w r) → MeaningsApart false d (Goes n t v r) (Goes n u w r)
        goes (Gives p c) ih x y =
            let k = ih (tell_by v (Gives p c)).after (tell_by w (Gives p c)).after (gives_pair v w h p c x y) refl refl in
            record { items = (gives_item v w h p c x y, k.items); ending = k.ending }
        goes (Stops e) ih x y = record { items = tt; ending = ended_apart d e v.place w.place h.level }

    -- what a view means, by what it told
    abbrev Means : List ℕ → View → Option (Ending ReadFault) → Meaning Item
    Means t v o = record {
      items = map (item_in t) (elim o as (λ _. List Piece) [ Some e ↦ [] | None ↦ pieces v.place (meaning os s v.core).parts ]);
      ending = elim o as (λ _. Ending ReadFault) [ Some e ↦ e | None ↦ ending v.place (meaning os s v.core) ];
    }

    -- where nothing is left the meaning is that it is finished
    none_means : (v : View) → call os s v.core ≡ Stops Done → meaning os s v.core ≡ only Done
    unfolding meaning reading
    none_means v e = ap (λ r. elim r as (λ _. Parts) [ Gives p c ↦ first p (reading (measure v.core) os s c) | Stops e ↦ only e ]) e

    done_means : (t : List ℕ) (v : View) → call os s v.core ≡ Stops Done → Means t v None ≡ record { items = []; ending = Ok tt }
    unfolding pieces behind
    done_means t v e = ap (λ m. record { items = map (item_in t) (pieces v.place m.parts); ending = ending v.place m }) (none_means v e)

    means_by : (v w : View) → Pair v w → (o p : Option (Ending ReadFault)) → v.told ≡ o → w.told ≡ p → TellsApart v w o p → MeaningsApart false d (Means t v o) (Means u w p)
    unfolding meaning AllAgree
    means_by v w h None None a b k =
        subst (λ n. MeaningsApart false d (Reads (suc (measure v.core)) t v) (Reads (suc n) u w)) (ap measure h.core) (reads_apart (suc (measure v.core)) v w h a b)
    means_by v w h None (Some (Ok y)) a b k = subst (λ m. MeaningsApart false d m (record { items = []; ending = Ok y })) (sym (done_means t v k)) (record { items = tt; ending = tt })
    means_by v w h None (Some (Err g)) a b k = absurd k
    means_by v w h (Some (Ok x)) None a b k = subst (λ m. MeaningsApart false d (record { items = []; ending = Ok x }) m) (sym (done_means u w k)) (record { items = tt; ending = tt })
    means_by v w h (Some (Err f)) None a b k = absurd k
    means_by v w h (Some e) (Some f) a b k = record { items = tt; ending = k }

    -- both mean the same, but for the amounts
    pub meanings_apart : (v w : View) → Both v w → MeaningsApart false d (meaning_of os s t v) (meaning_of os s u w)
    meanings_apart v w h = means_by v w h.0 v.told w.told refl refl h.1
