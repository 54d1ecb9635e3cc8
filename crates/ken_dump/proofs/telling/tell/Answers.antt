use Rattle.ken_dump.proofs.telling.tell.Goals as goal

pub recover-requires-clause-rests : goal.recover-requires-clause-rests
recover-requires-clause-rests g c = rw c.with_notes.ensures c.requires.rests
