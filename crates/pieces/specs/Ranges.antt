-- The range that a piece covers.
use Rattle.std.specs.Prelude.{ℕ}
use Rattle.pieces.specs.declared.piece.Piece.{Piece}

-- a piece begins where its span starts, and ends where that ends
abbrev pub begins : Piece → ℕ
begins p = p.span.start.offset

abbrev pub ends : Piece → ℕ
ends p = p.span.end.offset
