-- What a refused step of a chain coder leaves: the room of the side that would have been written to, and no word where words ran out.
pub use Rattle.constriction_chain.proofs.Refusals.{Decodes, none_compressed, refused_decode_keeps_room, Encodes, none_of_remainders, refused_encode_keeps_room}
