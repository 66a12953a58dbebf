use Rattle.std.proofs.Common.{arith, ap, sym, subst, ◌∙◌, ◌++◌, ◌+◌}
use Rattle.std.proofs.lemmas.List.{append-nil}
use Rattle.ip_defs.specs.declared.programs.Parts.{Parts}
use Rattle.tree_checker.specs.Streams.{HasStreamed}
use Rattle.tree_checker.specs.declared.streams.Streaming.{Streaming}
use Rattle.tree_checker.proofs.StreamLaws.{still_failed, failed_fault, unfailed, piece_on, piece_whole, piece_failed}
use Rattle.tree_checker.proofs.streams.StreamCheck.feed.Goals as goal

pub returns-in-Some-clause-read : goal.returns-in-Some-clause-read
returns-in-Some-clause-read c = λ m bytes h.
    let f = ap (λ (v : Parts × Streaming). v.1.fault) (sym c.self.view_is) ∙ c.in-Some.is in
    (h.0, still_failed m c.args.self.now.1 c.in-Some.fault bytes c.args.piece.now f h.1)

pub returns-in-Some-clause-fault : goal.returns-in-Some-clause-fault
returns-in-Some-clause-fault c = λ m bytes h.
    let f = ap (λ (v : Parts × Streaming). v.1.fault) (sym c.self.view_is) ∙ c.in-Some.is in
    sym (failed_fault m c.args.self.now.1 c.in-Some.fault (bytes ++ c.args.piece.now) f
    (still_failed m c.args.self.now.1 c.in-Some.fault bytes c.args.piece.now f h.1))

pub loop-byte-init : goal.loop-byte-init
loop-byte-init c = record {
  none = ap (λ (v : Parts × Streaming). v.1.fault) (sym c.self.view_is) ∙ c.in_default.is;
  read = λ m bytes h. subst (HasStreamed m c.args.self.now) (sym (append-nil bytes)) h;
}

pub loop-byte-preserved : goal.loop-byte-preserved
loop-byte-preserved c = record {
  none = c.in-Ok.ensures.fault;
  read = piece_on c.args.self.now c.loop-byte.self c.take.new.self c.args.piece.now c.loop-byte.byte-index c.loop-byte-test.true
      c.loop-byte.invariant.read c.in-Ok.ensures.read;
}

pub returns-in-Err-clause-read : goal.returns-in-Err-clause-read
returns-in-Err-clause-read c = λ m bytes h.
    let i = c.loop-byte.byte-index in
    piece_failed m c.take.new.self bytes c.args.piece.now (i + 1) c.in-Err.fault c.in-Err.ensures.fault
    (piece_on c.args.self.now c.loop-byte.self c.take.new.self c.args.piece.now i c.loop-byte-test.true c.loop-byte.invariant.read
    c.in-Err.ensures.read m bytes h)

pub returns-in-Err-clause-fault : goal.returns-in-Err-clause-fault
returns-in-Err-clause-fault c = λ m bytes h.
    let i = c.loop-byte.byte-index in
    let whole = piece_failed m c.take.new.self bytes c.args.piece.now (i + 1) c.in-Err.fault c.in-Err.ensures.fault
    (piece_on c.args.self.now c.loop-byte.self c.take.new.self c.args.piece.now i c.loop-byte-test.true c.loop-byte.invariant.read
    c.in-Err.ensures.read m bytes h) in
    sym (failed_fault m c.take.new.self.1 c.in-Err.fault (bytes ++ c.args.piece.now) c.in-Err.ensures.fault whole.1)

pub returns-clause-read : goal.returns-clause-read
returns-clause-read c = λ m bytes h.
    let over = c.loop-byte-test.false in
    piece_whole m c.loop-byte.self bytes c.args.piece.now c.loop-byte.byte-index (omega arith) (c.loop-byte.invariant.read m bytes h)

pub returns-clause-fault : goal.returns-clause-fault
returns-clause-fault c = λ m bytes h.
    let over = c.loop-byte-test.false in
    let whole = piece_whole m c.loop-byte.self bytes c.args.piece.now c.loop-byte.byte-index (omega arith)
    (c.loop-byte.invariant.read m bytes h) in
    sym (unfailed m c.loop-byte.self.1 (bytes ++ c.args.piece.now) c.loop-byte.invariant.none whole.1).none
