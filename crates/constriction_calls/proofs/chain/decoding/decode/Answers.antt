use Rattle.std.proofs.Common.{refl, sym, length, ap, ◌≡◌, ◌∙◌, take, [], arith}
use Rattle.std.proofs.Math.Seq.{take-length}
use Rattle.constriction_chain.specs.Chain.{IsDecode}
use Rattle.constriction_chain.proofs.Chains.{state}
use Rattle.constriction_inputs.specs.Buffers.{stack_in}
use Rattle.constriction_calls.specs.ChainCalls.{AreInUse, chain_buffers}
use Rattle.constriction_inputs.specs.Coded.{items}
use Rattle.constriction_inputs.proofs.Asking.{fit_ok}
use Rattle.constriction_inputs.proofs.KnownItems.{known_by}
use Rattle.constriction_calls.proofs.ChainAnswers.{of_data, of_room, takes_ended, takes_stopped}
use Rattle.constriction_calls.proofs.ChainFrame.{ends_in, needs_space_in, taken_in}
use Rattle.constriction_calls.proofs.chain.decoding.decode.Goals as goal

pub returns-in-Err : goal.returns-in-Err
returns-in-Err g c =
    let number = g.Word.Natural.number in
    let old = chain_buffers c.args.heads.now c.args.compressed.now c.args.len.now c.args.remainders.now c.args.rest.now in
    let within : AreInUse old = (omega (arith, c.if-len-compressed.false), omega (arith, c.if-rest-remainders.false)) in
    let coded = g.G.Models.coded c.args.models.now in
    let symbols = g.G.Symbol.Symbol.numbers c.args.symbols.now in
    let right = c.in-Some.ensures.variant.0 refl in
    let is : c.from_raw_parts-coder.result.state ≡ state (number c.args.heads.now.compressed) (g.State.Natural.number c.args.heads.now.remainders) (stack_in number c.args.compressed.now c.args.len.now) []
    = rw (c.from_raw_parts-coder.ensures.value, c.in-Some.ensures.value, c.new_at_write_end-lent.ensures, c.new-2.ensures.items, take-length (take c.args.len.now c.args.compressed.now)) refl in
    record {
      call = takes_stopped number g.State.Natural.number g.Word.Natural.BITS g.State.Natural.BITS g.row.PRECISION old within coded symbols (fit_ok g.row.PRECISION (coded symbols) c.in_ok-check_for.ensures.asks)
          (record { some = right.0; window = right.1 }) (length c.args.symbols.now) (sym (g.G.Symbol.Symbol.count_law c.args.symbols.now)) old refl c.in-Err.refusal (of_data _ _ _ c.in-Err.ensures.err
          (λ early. ends_in number g.Word.Natural.BITS g.State.Natural.BITS _ _ c.args.compressed.now c.args.len.now c.args.remainders.now c.args.rest.now g.row.PRECISION _ _ (rw is at early)));
    }

pub returns-in-Err-finish_decoding : goal.returns-in-Err-finish_decoding
returns-in-Err-finish_decoding g c =
    let number = g.Word.Natural.number in
    let old = chain_buffers c.args.heads.now c.args.compressed.now c.args.len.now c.args.remainders.now c.args.rest.now in
    let within : AreInUse old = (omega (arith, c.if-len-compressed.false), omega (arith, c.if-rest-remainders.false)) in
    let coded = g.G.Models.coded c.args.models.now in
    let symbols = g.G.Symbol.Symbol.numbers c.args.symbols.now in
    let right = c.in-Some.ensures.variant.0 refl in
    let is : c.from_raw_parts-coder.result.state ≡ state (number c.args.heads.now.compressed) (g.State.Natural.number c.args.heads.now.remainders) (stack_in number c.args.compressed.now c.args.len.now) []
    = rw (c.from_raw_parts-coder.ensures.value, c.in-Some.ensures.value, c.new_at_write_end-lent.ensures, c.new-2.ensures.items, take-length (take c.args.len.now c.args.compressed.now)) refl in
    let now = c.finish_decoding.new in
    let kept = c.in-Err-finish_decoding.ensures.kept in
    record {
      call = takes_stopped number g.State.Natural.number g.Word.Natural.BITS g.State.Natural.BITS g.row.PRECISION old within coded symbols (fit_ok g.row.PRECISION (coded symbols) c.in_ok-check_for.ensures.asks)
          (record { some = right.0; window = right.1 }) (length c.args.symbols.now) (sym (g.G.Symbol.Symbol.count_law c.args.symbols.now))
          (chain_buffers now.heads c.args.compressed.now now.len now.remainders now.rest) (rw (kept.0, kept.1, kept.2, kept.3) refl) c.in-Err-finish_decoding.error
          (of_room _ _ _ _ c.in-Err-finish_decoding.ensures.err (needs_space_in number g.Word.Natural.BITS g.State.Natural.BITS _ _ c.args.compressed.now c.args.len.now c.args.remainders.now c.args.rest.now
          _ _ c.in-Ok.again.items c.decode_list.new.coder.state within.1 c.in-Ok.ensures.count (rw is at c.in-Ok.ensures.ok)));
    }

pub returns : goal.returns
returns g c =
    let number = g.Word.Natural.number in
    let old = chain_buffers c.args.heads.now c.args.compressed.now c.args.len.now c.args.remainders.now c.args.rest.now in
    let within : AreInUse old = (omega (arith, c.if-len-compressed.false), omega (arith, c.if-rest-remainders.false)) in
    let coded = g.G.Models.coded c.args.models.now in
    let symbols = g.G.Symbol.Symbol.numbers c.args.symbols.now in
    let right = c.in-Some.ensures.variant.0 refl in
    let is : c.from_raw_parts-coder.result.state ≡ state (number c.args.heads.now.compressed) (g.State.Natural.number c.args.heads.now.remainders) (stack_in number c.args.compressed.now c.args.len.now) []
    = rw (c.from_raw_parts-coder.ensures.value, c.in-Some.ensures.value, c.new_at_write_end-lent.ensures, c.new-2.ensures.items, take-length (take c.args.len.now c.args.compressed.now)) refl in
    let e = c.in-Ok-finish_decoding.ensures in
    let now = c.finish_decoding.new in
    let again = c.in-Ok.again.items in
    let same : (g.G.Symbol.Symbol.numbers c.put_numbers.new.symbols) ≡ again = c.put_numbers.ensures.numbers ∙ (ap g.G.Symbol.Symbol.kept c.as_slice.ensures.value
    ∙ g.met.G.DecoderModels.kept_law c.args.models.now again (c.in_ok-check_for.ensures.fit again c.in-Ok.ensures.count)
    (known_by (IsDecode g.Word.Natural.BITS g.State.Natural.BITS) (items g.row.PRECISION (coded again)) _ _ c.in-Ok.ensures.ok)) in
    record {
      call = rw same (takes_ended number g.State.Natural.number g.Word.Natural.BITS g.State.Natural.BITS g.row.PRECISION old within coded symbols (fit_ok g.row.PRECISION (coded symbols) c.in_ok-check_for.ensures.asks)
          (record { some = right.0; window = right.1 }) (chain_buffers now.heads c.args.compressed.now now.len now.remainders now.rest) again (c.in-Ok.ensures.count ∙ sym (g.G.Symbol.Symbol.count_law c.args.symbols.now))
          (taken_in number g.Word.Natural.BITS g.State.Natural.BITS _ _ c.args.compressed.now c.args.len.now c.args.remainders.now c.args.rest.now _ _ _ now.len e.remainders.0 now.remainders
          now.rest c.decode_list.new.coder.state within.0 (rw is at c.in-Ok.ensures.ok) e.heads.0 e.heads.1 e.compressed e.remainders.1 e.remainders.2) refl e.remainders.0 e.remainders.2);
    }
