-- `put_group` writes the number, a colon, the entrants and a newline. Assumes nothing.
use Rattle.answer.proofs.Groups.{numbered, entrants-room, line_wrote}
use Rattle.answer.proofs.put_group.Goals as goal

pub put_entrants-c-requires : goal.put_entrants-c-requires
put_entrants-c-requires c =
    entrants-room c.args.number c.args.w _ _ c.requires
    (numbered c.args.number c.args.w _ _ c.requires c.put_number-a.ensures.value c.put_number-a.ensures.buf_after c.put_bytes-b.ensures.value c.put_bytes-b.ensures.buf_after)

pub returns : goal.returns
returns c =
    line_wrote c.args.number c.args.w _ _ c.requires
    (numbered c.args.number c.args.w _ _ c.requires c.put_number-a.ensures.value c.put_number-a.ensures.buf_after c.put_bytes-b.ensures.value c.put_bytes-b.ensures.buf_after)
    c.put_entrants-c.ensures c.put_bytes.ensures.value c.put_bytes.ensures.buf_after
