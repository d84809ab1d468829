use Rattle.std.proofs.Common.{arith, ◌≡◌, ◌<◌, [], ◌++◌, length, take, drop, subst, sym, ap, ◌∙◌}
use Rattle.std.proofs.lemmas.List.{take_at}
use Rattle.std.specs.Io.KnownBytes.{Consumes}
use Rattle.std.proofs.KnownBytes.{Consumes-nil, Consumes-trans}
use Rattle.ak_outside.proofs.FileLemmas.{reads_whole, reads_more}
use Rattle.ak_outside.specs.declared.reader.TheConstants.{MOST_READ}
use Rattle.ak_outside.proofs.std_folder.read_most.Goals as goal

pub reads-init : goal.reads-init
reads-init g c =
    let none : c.new-bytes.result.items ≡ [] = c.new-bytes.ensures.items in
    let source = g.S.Source.remaining c.args.source.now in
    record {
      room = omega (arith, c.in_ok-buffer.ensures.len, c.in_ok-buffer.buffer.ok);
      read = subst (Consumes source source) (sym none) (Consumes-nil source);
    }

pub returns-in-Got-eq0-clause-reads : goal.returns-in-Got-eq0-clause-reads
returns-in-Got-eq0-clause-reads g c =
    let none : c.in-Got-eq0.field-0 ≡ 0 = c.in-Got-eq0.field-0-test in
    let room : 0 < length c.read.new.buffer = omega (arith, c.read.auto.buffer, ap length c.deref_mut.ensures.value, c.reads.invariant.room) in
    rw (c.in_ok-from_bytes-in-Got-eq0.ensures, c.deref.ensures.value)
    (reads_whole (g.S.Source.remaining c.args.source.now) (g.S.Source.remaining c.reads.source) c.reads.bytes.items c.reads.invariant.read ((c.in-Got-eq0.ensures.end room).0 none))

pub reads-preserved : goal.reads-preserved
reads-preserved g c =
    let got = c.read.new.buffer in
    let room : length got ≡ MOST_READ = omega (arith, c.read.auto.buffer, ap length c.deref_mut.ensures.value, c.reads.invariant.room) in
    let same : length got ≡ c.reads.buffer.len = omega (arith, room, c.reads.invariant.room, c.reads.buffer.ok) in
    let whole : take c.reads.buffer.len (got ++ drop (length got) c.reads.buffer.items) ≡ got = take_at got (drop (length got) c.reads.buffer.items) c.reads.buffer.len same in
    let piece : take c.in-Got.count c.deref-in-Got.result.now ≡ take c.in-Got.count got = ap (take c.in-Got.count) (c.deref-in-Got.ensures.value ∙ whole) in
    let items : c.extend_from_slice.new.self.items ≡ c.reads.bytes.items ++ take c.in-Got.count c.deref-in-Got.result.now = c.in_ok-extend_from_slice-in-Got.ensures.items in
    let old = g.S.Source.remaining c.args.source.now in
    let mid = g.S.Source.remaining c.reads.source in
    let new = g.S.Source.remaining c.read.new.self in
    let joined : Consumes old new (c.reads.bytes.items ++ take c.in-Got.count c.deref-in-Got.result.now) =
    Consumes-trans old mid new c.reads.bytes.items (take c.in-Got.count c.deref-in-Got.result.now) c.reads.invariant.read (subst (Consumes mid new) (sym piece) c.in-Got.ensures.bytes) in
    record { room = ap length whole ∙ room; read = subst (Consumes old new) (sym items) joined }

pub returns-clause-reads : goal.returns-clause-reads
returns-clause-reads g c =
    reads_more (g.S.Source.remaining c.args.source.now) (g.S.Source.remaining c.reads.source) c.reads.bytes.items c.args.most c.reads.invariant.read (omega (arith, c.reads-test.false, c.reads.bytes.ok))
