-- Any list of calls on a reader, and what they tell.
use Rattle.std.specs.Prelude.{List, [], ◌∷◌, map, Option}
use Rattle.std.specs.List.{AllByRecursion}
use Rattle.finder.specs.Finding.{Opening}
use Rattle.rules.specs.Config.{Config}
use Rattle.rules.specs.Texts.{Same}
use Rattle.reader.specs.Views.{View, tell}
use Rattle.reader.specs.Rests.{rests}
use Rattle.runs.specs.declared.Call.{Call}
use Rattle.runs.specs.declared.Ask.{Ask}
use Rattle.runs.specs.declared.Ask.TheVariants.{Next, Rest}
use Rattle.runs.specs.declared.Reply.{Reply}
use Rattle.runs.specs.declared.Reply.TheVariants.{Told, Rests}

-- a call: next, served by a finder of these openings, or rest
abbrev pub Asked : Type 0
Asked = Ask (List Opening)

-- what a call tells
abbrev pub reply : Config → View → Asked → Reply
reply s v (Next os) = Told (tell os s v).answer
reply s v Rest = Rests (rests v)

-- the view behind a call; rest changes nothing
abbrev pub behind_call : Config → View → Asked → View
behind_call s v (Next os) = (tell os s v).after
behind_call s v Rest = v

-- what the calls tell, one after the other
unfoldable pub replies : Config → View → List Asked → List Reply
replies s v [] = []
replies s v (c ∷ cs) = reply s v c ∷ replies s (behind_call s v c) cs

-- the view behind all of them
unfoldable pub behind_calls : Config → View → List Asked → View
behind_calls s v [] = v
behind_calls s v (c ∷ cs) = behind_calls s (behind_call s v c) cs

-- a next is lawful if its finder has the openings ps, in any order; rest is always lawful
abbrev pub LawfulCall : List Opening → Asked → Type 0
LawfulCall ps (Next os) = Same os ps
LawfulCall ps Rest = Unit {0}

-- each of the calls is lawful
abbrev pub AllLawful : List Opening → List Asked → Type 0
AllLawful ps cs = AllByRecursion (LawfulCall ps) cs

-- a call of the code, its finder taken by the openings that it means
abbrev pub call_of : {F : Type 0} → (F → List Opening) → Ask F → Asked
call_of openings (Next f) = Next (openings f)
call_of openings Rest = Rest

-- what the calls of the code ask, without the replies
abbrev pub asks_of : {F : Type 0} → List (Call F) → List (Ask F)
asks_of cs = map (λ c. c.ask) cs

-- calls of the code, each finder taken by the openings that it means
abbrev pub calls_of : {F : Type 0} → (F → List Opening) → List (Call F) → List Asked
calls_of openings cs = map (λ c. call_of openings c.ask) cs

-- the replies that stand beside what they ask
abbrev pub replies_of : {F : Type 0} → List (Call F) → List (Option Reply)
replies_of cs = map (λ c. c.reply) cs

-- the same call, served by a finder of the openings os
abbrev pub served : List Opening → Asked → Asked
served os (Next ps) = Next os
served os Rest = Rest
