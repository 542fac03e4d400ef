use Rattle.std.proofs.Common.{sym}
use Rattle.std.proofs.lemmas.Result.{on_ok_weaker}
use Rattle.jc_dump.proofs.dump.send_before_tree.Goals as goal

pub returns : goal.returns
returns g c =
    let left = g.W.Serializer.written c.send_member-2.new.out in
    let name = g.W.Serializer.written c.send_member-3.new.out in
    let ops = g.W.Serializer.written c.send_ids_member.new.out in
    let queue = g.W.Serializer.written c.send_ids_member-2.new.out in
    let recv = g.W.Serializer.written c.send_ids_member-3.new.out in
    on_ok_weaker c.send_ids_member-4.result (λ sent. (
      g.W.Serializer.written c.send_member.new.out,
      c.in_ok-send_member.ensures,
      (
        left,
        c.in_ok-send_member-2.ensures,
        (
          name,
          c.in_ok-send_member-3.ensures,
          (
            ops,
            rw (sym c.as_slice.ensures.value) c.in_ok-send_ids_member.ensures,
            (
              queue,
              rw (sym c.as_slice-2.ensures.value) c.in_ok-send_ids_member-2.ensures,
              (recv, rw (sym c.as_slice-3.ensures.value) c.in_ok-send_ids_member-3.ensures, rw (sym c.as_slice-4.ensures.value) sent),
            ),
          ),
        ),
      ),
    ))
    c.send_ids_member-4.ensures
