-- What the clauses of `encode_symbol` and `decode_symbol` say of each answer.
pub use Rattle.constriction_stream.proofs.Outcomes.{ok_of, refused_of, refused_itself_of, impossible_of, never_known_of, room_of, EncodesByBackend, ok_by, refused_by, impossible_by, frontend_by, untouched_by, room_by, room_unless, DecodesByBackend, decoded_by, undecoded_by}
pub use Rattle.constriction_queue.proofs.Decoders.{only_invalid}
