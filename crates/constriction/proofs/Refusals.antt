-- What a refused bit tells of a bit coder.
pub use Rattle.constriction_symbol.proofs.Refusals.{bit_room, one_less, so_many_less, refused_full, refused_lacks_room, closes_with_room}
