-- Why a text that is UTF-8 is refused: for a bad escape alone.
use Rattle.std.proofs.Common.{◌≡◌, ℕ, zero, suc, ◌+◌, true, false, eqb, List, [], ◌∷◌, length, Ok, Err, IfErr, sym, refl, subst, Result}
use Rattle.std.proofs.lemmas.Bool.{eq-eqb}
use Rattle.stream.specs.Told.{Ending}
use Rattle.utf8.specs.declared.NotUtf8.{NotUtf8 as Illformed}
use Rattle.utf8.specs.Utf8.{characters, prefix}
use Rattle.escape.specs.declared.fault.DecodeFault.{DecodeFault}
use Rattle.escape.specs.declared.fault.DecodeFault.TheVariants.{NotUtf8, Escape}
use Rattle.escape.specs.Escapes.{Indexed, Given, Gives, Bad, escape, Unescaped, first, ends, unescaped_from, unescaped}
use Rattle.escape.specs.Faults.{number_of}
use Rattle.decode.specs.Decoding.{unescapes, length_of, decoded_len}

-- finished, or a bad escape
abbrev pub BadAlone : Ending DecodeFault → Type 0
BadAlone e = IfErr e (λ f. number_of f ≡ 15)

behind_bad : (c : Indexed) (cs : List Indexed) (g : Given) → ((n : ℕ) → BadAlone (unescaped_from n cs (Ok tt)).ending)
    → BadAlone (elim g as (λ _. Unescaped) [ Gives v n ↦ first v (unescaped_from n cs (Ok tt)) | Bad ↦ ends (Err (Escape (record { backslash = c.0 }))) ]).ending
behind_bad c cs (Gives v n) h = h n
behind_bad c cs Bad h = refl

-- characters that finish mean code points that finish, or a bad escape
from_bad : (k : ℕ) (cs : List Indexed) → BadAlone (unescaped_from k cs (Ok tt)).ending
unfolding unescaped_from
from_bad zero [] = tt
from_bad (suc k) [] = tt
from_bad (suc k) (c ∷ cs) = from_bad k cs
from_bad zero (c ∷ cs) =
    elim (eqb c.1 92) as (λ b. BadAlone (elim b as (λ _. Unescaped) [
      | true ↦ elim (escape cs) as (λ _. Unescaped) [ Gives v n ↦ first v (unescaped_from n cs (Ok tt)) | Bad ↦ ends (Err (Escape (record { backslash = c.0 }))) ]
      | false ↦ first c.1 (unescaped_from zero cs (Ok tt))
    ]).ending) [
      | true ↦ behind_bad c cs (escape cs) (λ n. from_bad n cs)
      | false ↦ from_bad zero cs
    ]

length_bad : (ps : List ℕ) (e : Ending DecodeFault) → BadAlone e → IfErr (length_of (record { points = ps; ending = e })) (λ f. number_of f ≡ 15)
length_bad ps (Ok x) h = tt
length_bad ps (Err f) h = h

-- the decoder's fault of a text that is UTF-8 is a bad escape
pub bad_alone : (xs : List ℕ) → prefix xs ≡ length xs → IfErr (decoded_len xs) (λ f. number_of f ≡ 15)
bad_alone xs w =
    let t = eq-eqb (prefix xs) (length xs) w in
    let u : Unescaped = unescaped (characters 0 xs) (Ok tt) in
    subst (λ b. IfErr (elim b as (λ _. Result ℕ DecodeFault) [ true ↦ length_of (unescapes xs) | false ↦ Err (NotUtf8 (record { byte = prefix xs })) ]) (λ f. number_of f ≡ 15)) (sym t)
    (subst (λ b. IfErr (length_of (unescaped (characters 0 xs) (elim b as (λ _. Ending Illformed) [ true ↦ Ok tt | false ↦ Err (record { byte = 0 + prefix xs }) ]))) (λ f. number_of f ≡ 15)) (sym t)
    (length_bad u.points u.ending (from_bad 0 (characters 0 xs))))
