use Rattle.mig_graph.proofs.Common.{All, Disk, Incoming, IsDiskInRange, List, MAX_ITEMS, Outgoing, ap, arith, edge_transfer, length, length-map, map, refl, subst, sym, ◌∙◌, ◌≤◌}
use Rattle.mig_graph.proofs.Made.{edges_there, few_in, is_counted, loads_in}
use Rattle.mig_graph.proofs.graphs.Graph.of.Goals as goal

pub loads_of-requires : goal.loads_of-requires
loads_of-requires c =
    let x = edges_there c.args.input.now c.in_ok-edges.edges.items c.deref.result.now c.len.result c.disks.ensures.valid c.in_ok-edges.ensures.transfers c.deref.ensures.value (c.len.ensures ∙ c.in_ok-disks.ensures.len ∙ ap (λ (x : List Disk). length x) c.disks.ensures.value) in
    record { few = x.0; from = x.1; to = x.2 }

pub loads_of-requires-2 : goal.loads_of-requires-2
loads_of-requires-2 c =
    let x = edges_there c.args.input.now c.in_ok-edges.edges.items c.deref-2.result.now c.len-2.result c.disks.ensures.valid c.in_ok-edges.ensures.transfers c.deref-2.ensures.value (c.len-2.ensures ∙ c.in_ok-disks.ensures.len ∙ ap (λ (x : List Disk). length x) c.disks.ensures.value) in
    record { few = x.0; from = x.1; to = x.2 }

pub quotient_of-quotient-requires : goal.quotient_of-quotient-requires
quotient_of-quotient-requires c =
    let disks = c.in_ok-disks.disks.items in
    let edges = c.in_ok-edges.edges.items in
    let few = (edges_there c.args.input.now edges edges _ c.disks.ensures.valid c.in_ok-edges.ensures.transfers refl refl).0 in
    let few_transfers : length (map edge_transfer edges) ≤ MAX_ITEMS = omega (arith, few, length-map edges edge_transfer) in
    record {
      outgoing = few_in Outgoing disks c.deref-3.result.now edges c.in_ok-outgoing.outgoing.items c.deref-4.result.now c.deref-3.ensures.value c.deref-4.ensures.value few_transfers (loads_in Outgoing disks edges c.deref.result.now c.len.result c.in_ok-outgoing.outgoing.items (omega (arith, c.len.ensures)) c.deref.ensures.value c.in_ok-outgoing.ensures);
      incoming = few_in Incoming disks c.deref-3.result.now edges c.in_ok-incoming.incoming.items c.deref-5.result.now c.deref-3.ensures.value c.deref-5.ensures.value few_transfers (loads_in Incoming disks edges c.deref-2.result.now c.len-2.result c.in_ok-incoming.incoming.items (omega (arith, c.len-2.ensures)) c.deref-2.ensures.value c.in_ok-incoming.ensures);
      valid = subst (λ (x : List Disk). All IsDiskInRange x) (sym (c.deref-3.ensures.value ∙ c.in_ok-disks.ensures.items ∙ c.disks.ensures.value)) c.disks.ensures.valid.disk_ranges;
    }

pub even_of-even-requires : goal.even_of-even-requires
even_of-even-requires c =
    let disks = c.in_ok-disks.disks.items in
    let edges = c.in_ok-edges.edges.items in
    let few = (edges_there c.args.input.now edges edges _ c.disks.ensures.valid c.in_ok-edges.ensures.transfers refl refl).0 in
    let few_transfers : length (map edge_transfer edges) ≤ MAX_ITEMS = omega (arith, few, length-map edges edge_transfer) in
    record {
      outgoing = few_in Outgoing disks c.deref-6.result.now edges c.in_ok-outgoing.outgoing.items c.deref-7.result.now c.deref-6.ensures.value c.deref-7.ensures.value few_transfers (loads_in Outgoing disks edges c.deref.result.now c.len.result c.in_ok-outgoing.outgoing.items (omega (arith, c.len.ensures)) c.deref.ensures.value c.in_ok-outgoing.ensures);
      incoming = few_in Incoming disks c.deref-6.result.now edges c.in_ok-incoming.incoming.items c.deref-8.result.now c.deref-6.ensures.value c.deref-8.ensures.value few_transfers (loads_in Incoming disks edges c.deref-2.result.now c.len-2.result c.in_ok-incoming.incoming.items (omega (arith, c.len-2.ensures)) c.deref-2.ensures.value c.in_ok-incoming.ensures);
    }

pub invariant_of-result : goal.invariant_of-result
invariant_of-result c =
    let disks = c.in_ok-disks.disks.items in
    let edges = c.in_ok-edges.edges.items in
    let outgoing = c.in_ok-outgoing.outgoing.items in
    let incoming = c.in_ok-incoming.incoming.items in
    let out = loads_in Outgoing disks edges c.deref.result.now c.len.result outgoing (omega (arith, c.len.ensures)) c.deref.ensures.value c.in_ok-outgoing.ensures in
    let into = loads_in Incoming disks edges c.deref-2.result.now c.len-2.result incoming (omega (arith, c.len-2.ensures)) c.deref-2.ensures.value c.in_ok-incoming.ensures in
    is_counted _ c.args.input.now c.disks.ensures.valid (c.in_ok-disks.ensures.items ∙ c.disks.ensures.value) c.in_ok-edges.ensures.items c.in_ok-edges.ensures.transfers out into
    (rw (c.deref-3.ensures.value, c.deref-4.ensures.value, c.deref-5.ensures.value) at c.quotient_of-quotient.ensures) c.duplex.ensures
    (rw (c.deref-6.ensures.value, c.deref-7.ensures.value, c.deref-8.ensures.value) at c.even_of-even.ensures)
