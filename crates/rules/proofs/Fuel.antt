-- One call of a reading: how many calls are allowed does not matter, if they are enough.
use Rattle.std.proofs.Common.{◌≡◌, ℕ, zero, suc, ◌<◌, List, [], ◌∷◌, length, sym, refl, ap, ◌∙◌, arith, Some, None, Ok, Err}
use Rattle.std.proofs.lemmas.List.{length-drop}
use Rattle.finder.specs.Finding.{Opening}
use Rattle.rules.specs.Config.{Config, Ended}
use Rattle.rules.specs.Reading.{Unread, Outcome, Gives, Stops, finish, act, call, Parts, first, only, go_on, reading, cut_rank, measure, meaning}
use Rattle.rules.specs.Shapes.{Fits}
use Rattle.rules.specs.State.{Core, Verdict}
use Rattle.rules.specs.Texts.{verdict}
use Rattle.rules.proofs.Inside.{Fine}
use Rattle.rules.proofs.Outside.{verdict_fits}

-- what waits in a state is ahead
abbrev pub FineAt : Core → Type 0
FineAt c = Fine (length c.ahead) c.pending

-- a call leads to a state from which fewer pieces can come
abbrev pub Steps : Core → Outcome → Type 0
Steps c (Gives p d) = (measure d < measure c) × FineAt d
Steps c (Stops e) = Unit {0}

finish_steps : (c : Core) (xs : List ℕ) → c.cut ≡ xs → FineAt c → Steps c (finish c xs)
finish_steps c [] e f = tt
finish_steps c (x ∷ xs) e f = let h = ap cut_rank e in (omega arith, f)

pub act_steps : (c : Core) (v : Verdict) → FineAt c → Fits (length c.ahead) c.state c.pending v → Steps c (act c v)
act_steps c (Ok (Some p)) f h =
    let l = length-drop p.len c.ahead in
    let a = h.ahead in
    let b = h.falls in
    (omega arith, (h.lively, omega arith))
act_steps c (Ok None) f h = finish_steps c c.cut refl f
act_steps c (Err q) f h = tt

-- two ways to go on that agree on what is smaller
alike : (F G : Core → Parts) (c : Core) → ((e : Core) → measure e < measure c → FineAt e → F e ≡ G e) → (r : Outcome) → Steps c r → go_on F r ≡ go_on G r
alike F G c h (Gives p d) s = ap (first p) (h d s.0 s.1)
alike F G c h (Stops e) s = refl

reading_more : (n : ℕ) (os : List Opening) (s : Config) (c : Core) → reading (suc n) os s c ≡ go_on (reading n os s) (call os s c)
unfolding reading
reading_more n os s c = by (call os s c)
  where
    by : (r : Outcome) → elim r [ Gives p d ↦ first p (reading n os s d) | Stops e ↦ only e ] ≡ go_on (reading n os s) r
    by (Gives p d) = refl
    by (Stops e) = refl

module _ (os : List Opening) (s : Config) (ended : Ended s) where
  pub call_steps : (c : Core) → FineAt c → Steps c (call os s c)
  call_steps c f = act_steps c (verdict os s c) f (verdict_fits s os ended c f)

  reading_enough : (m n : ℕ) (c : Core) → measure c < m → measure c < n → FineAt c → reading m os s c ≡ reading n os s c
  reading_enough zero n c h k f = absurd (omega arith)
  reading_enough (suc m) zero c h k f = absurd (omega arith)
  reading_enough (suc m) (suc n) c h k f =
      reading_more m os s c
      ∙ alike (reading m os s) (reading n os s) c (λ e l g. reading_enough m n e (omega arith) (omega arith) g) (call os s c) (call_steps c f)
      ∙ sym (reading_more n os s c)

  -- what a reading means is what the next call tells, and then what the reading behind it means
  pub meaning_step : (c : Core) → FineAt c → meaning os s c ≡ go_on (meaning os s) (call os s c)
  unfolding meaning
  meaning_step c f =
      reading_more (measure c) os s c
      ∙ alike (reading (measure c) os s) (λ e. reading (suc (measure e)) os s e) c (λ e l g. reading_enough (measure c) (suc (measure e)) e l (omega arith) g) (call os s c) (call_steps c f)

  -- a way to go on that does not stop unread from what is smaller
  Goes : (Core → Parts) → Core → Type 0
  Goes F c = (e : Core) → measure e < measure c → FineAt e → (F e).stop ≡ Unread → ⊥

  finish_ends : (F : Core → Parts) (c : Core) → Goes F c → FineAt c → (xs : List ℕ) → c.cut ≡ xs → (go_on F (finish c xs)).stop ≡ Unread → ⊥
  unfolding Goes
  finish_ends F c h f [] q u = let z : ◌≡◌ {A = ℕ} 0 1 = cc in omega arith
  finish_ends F c h f (x ∷ xs) q u = let m = finish_steps c (x ∷ xs) q f in h _ m.0 m.1 u

  act_ends : (F : Core → Parts) (c : Core) → Goes F c → FineAt c → (v : Verdict) → Fits (length c.ahead) c.state c.pending v → (go_on F (act c v)).stop ≡ Unread → ⊥
  unfolding Goes
  act_ends F c h f (Ok (Some p)) g u = let m = act_steps c (Ok (Some p)) f g in h _ m.0 m.1 u
  act_ends F c h f (Ok None) g u = finish_ends F c h f c.cut refl u
  act_ends F c h f (Err q) g u = let z : ◌≡◌ {A = ℕ} 0 1 = cc in omega arith

  -- enough calls never stop unread
  reading_ends : (n : ℕ) (c : Core) → measure c < n → FineAt c → (reading n os s c).stop ≡ Unread → ⊥
  unfolding Goes
  reading_ends zero c h f u = omega arith
  reading_ends (suc n) c h f u =
      act_ends (reading n os s) c (λ e l g. reading_ends n e (omega arith) g) f (verdict os s c) (verdict_fits s os ended c f) (sym (ap (λ r. r.stop) (reading_more n os s c)) ∙ u)

  pub meaning_ends : (c : Core) → FineAt c → (meaning os s c).stop ≡ Unread → ⊥
  unfolding meaning
  meaning_ends c f u = reading_ends (suc (measure c)) c (omega arith) f u
