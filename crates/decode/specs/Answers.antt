-- What decoding into memory of its own answers.
use Rattle.std.specs.Prelude.{◌≡◌, ℕ, List, Ok, Err, vec_items, codes, Result, Vec}
use Rattle.std.specs.declared.alloc.Global.{Global}
use Rattle.escape.specs.Faults.{number_of, place_of, fault_text}
use Rattle.decode.specs.declared.DecodeError.{DecodeError}
use Rattle.decode.specs.declared.DecodeError.TheVariants.{Fault, NoMemory}
use Rattle.decode.specs.Decoding.{Told, Done, Refused}

-- the bytes, or the refusal; want of memory says nothing of the text but that it is not refused
abbrev pub Decoded : Result (Vec ℕ Global) DecodeError → Told (List ℕ) → Type 0
Decoded (Ok v) t = t ≡ Done (vec_items v)
Decoded (Err (Fault f)) t = t ≡ Refused (number_of f) (place_of f)
Decoded (Err NoMemory) t = (bs : List ℕ) × (t ≡ Done bs)

-- an error as it is shown
abbrev pub error_text : DecodeError → List ℕ
error_text (Fault f) = fault_text f
error_text NoMemory = codes "no memory"
