-- One call after another.
use Rattle.std.proofs.Common.{◌≡◌, ℕ, ◌+◌, ◌<◌, ◌≤◌, List, [], ◌∷◌, ◌++◌, map, length, get_or, set, take, drop, Some, Option, sym, refl, ap, ◌∙◌, arith, get_or-set_same}
use Rattle.std.proofs.lemmas.List.{append_assoc, append-nil, take_more, drop_more, drop_all, take_all, take-set-le, map-set, set-get_or, get_or-map, length-set, map-append}
use Rattle.finder.specs.Finding.{Opening}
use Rattle.rules.specs.Config.{Config}
use Rattle.reader.specs.Views.{View}
use Rattle.runs.specs.declared.Call.{Call}
use Rattle.runs.specs.declared.Reply.{Reply}
use Rattle.runs.specs.Calls.{Asked, reply, behind_call, replies, behind_calls, call_of, asks_of, calls_of, replies_of}

module _ {F : Type 0} (openings : F → List Opening) (s : Config) (v : View) (cs : List (Call F)) where
  -- in ds the first i of the calls cs have their replies; behind them the reader stands at w
  pub record Driven (w : View) (ds : List (Call F)) (i : ℕ) : Type 0 where
    pub many : length ds ≡ length cs
    pub asks : asks_of ds ≡ asks_of cs
    pub told : replies_of (take i ds) ++ map Some (replies s w (calls_of openings (drop i cs))) ≡ map Some (replies s v (calls_of openings cs))
    pub left : behind_calls s w (calls_of openings (drop i cs)) ≡ behind_calls s v (calls_of openings cs)

  pub driven_none : Driven v cs 0
  driven_none = record { many = refl; asks = refl; told = refl; left = refl }

  -- what is asked stays
  same_ask : (ds : List (Call F)) (i : ℕ) (d : Call F) → asks_of ds ≡ asks_of cs → i < length ds → i < length cs → (get_or ds i d).ask ≡ (get_or cs i d).ask
  same_ask ds i d e h k = sym (get_or-map (λ c. c.ask) ds i d d.ask h) ∙ ap (λ l. get_or l i d.ask) e ∙ get_or-map (λ c. c.ask) cs i d d.ask k

  set_asks : (ds : List (Call F)) (i : ℕ) (d : Call F) (r : Option Reply) → i < length ds → asks_of (set ds i (record { ask = (get_or ds i d).ask; reply = r })) ≡ asks_of ds
  set_asks ds i d r h =
      map-set (λ c. c.ask) ds i (record { ask = (get_or ds i d).ask; reply = r })
      ∙ ap (set (asks_of ds) i) (sym (get_or-map (λ c. c.ask) ds i d d.ask h))
      ∙ set-get_or (asks_of ds) i d.ask

  set_replies : (ds : List (Call F)) (i : ℕ) (c : Call F) → i < length ds → replies_of (take (i + 1) (set ds i c)) ≡ replies_of (take i ds) ++ c.reply ∷ []
  set_replies ds i c h =
      let l = length-set ds i c in
      ap replies_of (take_more (set ds i c) i c (omega arith))
      ∙ ap (λ l. replies_of (l ++ get_or (set ds i c) i c ∷ [])) (take-set-le i ds i c (omega arith))
      ∙ ap (λ x. replies_of (take i ds ++ x ∷ [])) (get_or-set_same ds i c c h)
      ∙ map-append (λ x. x.reply) (take i ds) (c ∷ [])

  -- one call more is answered
  pub driven_more : (w x : View) (ds : List (Call F)) (i : ℕ) (d : Call F) (r : Reply) → Driven w ds i → i < length cs → r ≡ reply s w (call_of openings (get_or ds i d).ask) → x ≡ behind_call s w (call_of openings (get_or ds i d).ask)
      → Driven x (set ds i (record { ask = (get_or ds i d).ask; reply = Some r })) (i + 1)
  unfolding replies behind_calls
  driven_more w x ds i d r h k a b =
      let m = h.many in
      let c : Call F = record { ask = (get_or ds i d).ask; reply = Some r } in
      let q : Asked = call_of openings (get_or ds i d).ask in
      let l = length-set ds i c in
      let z : calls_of openings (drop i cs) ≡ q ∷ calls_of openings (drop (i + 1) cs) =
      ap (calls_of openings) (drop_more cs i d k) ∙ ap (λ t. call_of openings t ∷ calls_of openings (drop (i + 1) cs)) (sym (same_ask ds i d h.asks (omega arith) k)) in
      record {
        many = omega arith;
        asks = set_asks ds i d (Some r) (omega arith) ∙ h.asks;
        told =
            ap (λ l. l ++ map Some (replies s x (calls_of openings (drop (i + 1) cs)))) (set_replies ds i c (omega arith))
            ∙ append_assoc (replies_of (take i ds)) (Some r ∷ []) (map Some (replies s x (calls_of openings (drop (i + 1) cs))))
            ∙ ap (λ y. replies_of (take i ds) ++ Some y ∷ map Some (replies s x (calls_of openings (drop (i + 1) cs)))) a
            ∙ ap (λ y. replies_of (take i ds) ++ Some (reply s w q) ∷ map Some (replies s y (calls_of openings (drop (i + 1) cs)))) b
            ∙ sym (ap (λ l. replies_of (take i ds) ++ map Some (replies s w l)) z)
            ∙ h.told;
        left = ap (λ y. behind_calls s y (calls_of openings (drop (i + 1) cs))) b ∙ sym (ap (behind_calls s w) z) ∙ h.left;
      }

  -- all calls are answered
  pub driven_all : (w : View) (ds : List (Call F)) (i : ℕ) → length cs ≤ i → Driven w ds i → replies_of ds ≡ map Some (replies s v (calls_of openings cs))
  unfolding replies
  driven_all w ds i h d =
      let m = d.many in
      sym (append-nil (replies_of ds))
      ∙ ap (λ l. replies_of l ++ []) (sym (take_all i ds (omega arith)))
      ∙ ap (λ l. replies_of (take i ds) ++ map Some (replies s w (calls_of openings l))) (sym (drop_all i cs h))
      ∙ d.told

  -- and the reader stands behind them all
  pub driven_behind : (w : View) (ds : List (Call F)) (i : ℕ) → length cs ≤ i → Driven w ds i → w ≡ behind_calls s v (calls_of openings cs)
  unfolding behind_calls
  driven_behind w ds i h d = ap (λ l. behind_calls s w (calls_of openings l)) (sym (drop_all i cs h)) ∙ d.left
