-- What a round hands to threads may cross to them. A search that goes down through a whole worker runs out of steps, so its
-- parts have lemmas.
use denote.Param.Send.{IsSend, IsSync, sendable}
use denote.Param.SendFields.{declared_send}
use denote.RattleType.{RattleType}
use denote.Ref.{NamedLft}
use Rattle.std.proofs.Crossing as std
use Rattle.std.proofs.MapsCrossing as maps
use Rattle.std.proofs.alloc.Global.TheSendSync as global
use Rattle.std.proofs.option.Option.TheSendSync as option
use Rattle.std.proofs.sync.Arc.TheSendSync as arc
use Rattle.std.proofs.vec.Vec.TheSendSync as vec
use Rattle.std_alloc.proofs.vec.deque.VecDeque.TheSendSync as deque
use Rattle.atomic_table.proofs.badge.Badge.TheSendSync as badge
use Rattle.atomic_table.proofs.perch.Perch.TheSendSync as perch
use Rattle.atomic_table.proofs.ruled.Mark.TheSendSync as mark
use Rattle.atomic_table.proofs.ruled.RuledPerch.TheSendSync as ruled
use Rattle.atomic_table.proofs.send_lease.SendLease.TheSendSync as lease
use Rattle.atomic_table.proofs.shared.Seat.TheSendSync as seat
use Rattle.atomic_table.proofs.shared.Shared.TheSendSync as shared
use Rattle.rtrb.proofs.end.End.TheSendSync as ring
use Rattle.ken_frame.proofs.frame.Node.TheLaws.TheKnot as knot
use Rattle.ken_frame.proofs.raw.Own.TheSendSync as own
use Rattle.ken_frame.specs.contracts.frame.Frame as frame
use Rattle.ken_model.specs.contracts.messages.Message as message
use Rattle.ken_model.specs.contracts.messages.Out as out
use Rattle.ken_model.specs.contracts.shared.Shared as list
use Rattle.ken_net.specs.contracts.lossy.Lossy as lossy
use Rattle.ken_net.specs.declared.base.Base as base
use Rattle.ken_order.specs.contracts.order.Order as order
use Rattle.ken_pages.specs.contracts.heap.PageHeap as heap
use Rattle.ken_record.specs.contracts.base.Base as log_base
use Rattle.ken_record.specs.contracts.effects.Effects as effects
use Rattle.ken_record.specs.contracts.page.Page as page
use Rattle.ken_record.specs.contracts.page.PageBytes as page_bytes
use Rattle.ken_record.specs.contracts.sent.Sent as sent
use Rattle.ken_ship.specs.contracts.items.Sealed as sealed
use Rattle.ken_ship.specs.contracts.items.Told as told
use Rattle.ken_store.specs.contracts.kept.Kept as kept
use Rattle.ken_store.specs.contracts.patching.PatchSide as patch_side
use Rattle.ken_store.specs.contracts.turning.TurnSide as turn_side
use Rattle.ken_wire.specs.contracts.send_end.SendEnd as send_end
use Rattle.ken_wire.specs.contracts.take_end.TakeEnd as take_end
use Rattle.ken_wire.specs.contracts.wire_net.WireNet as wire_net
use Rattle.ken_work.specs.contracts.items.Feedback as feedback
use Rattle.ken_work.specs.contracts.items.Frozen as frozen
use Rattle.ken_work.specs.contracts.items.Settled as settled
use Rattle.ken_work.specs.contracts.patcher.PatchWorker as patch_worker
use Rattle.ken_work.specs.contracts.worker.TurnWorker as turn_worker
use Rattle.ken_threads.specs.contracts.seats.HandlerSeat as handler_seat

-- lists, queues, options and shares on the heap
ruleset held = (
  option.the_field_send,
  option.the_send,
  option.the_field_sync,
  option.the_sync,
  arc.the_send,
  arc.the_sync,
  vec.the_send,
  vec.the_sync,
  deque.the_send,
  deque.the_sync,
  global.the_field_send,
  global.the_send,
  global.the_field_sync,
  global.the_sync,
  std.crosses,
  sendable,
)

-- a frame's node, which links to nodes
ruleset linked = (own.the_send, own.the_sync, knot.crosses, held)

-- an end of a wire
ruleset wired = (
  badge.the_send,
  seat.the_send,
  shared.the_send,
  shared.the_sync,
  mark.the_send,
  ruled.the_send,
  ruled.the_sync,
  perch.the_send,
  perch.the_sync,
  lease.the_send,
  lease.the_sync,
  held,
)

pub frame_sends : IsSend frame.the_row
frame_sends = search linked depth 60 fits 20000

pub frame_syncs : IsSync frame.the_row
frame_syncs = search linked depth 60 fits 20000

pub heap_sends : IsSend heap.the_row
heap_sends = search linked depth 60 fits 20000

-- lists that copies share
pub list_sends : (T : RattleType) → IsSend T → IsSync T → IsSend (list.the_row T)
list_sends T s y = search held depth 60 fits 20000

pub sent_sends : IsSend sent.the_row
sent_sends = search held depth 60 fits 20000

pub sent_syncs : IsSync sent.the_row
sent_syncs = search held depth 60 fits 20000

pub out_sends : IsSend out.the_row
out_sends = search held depth 60 fits 20000

pub out_syncs : IsSync out.the_row
out_syncs = search held depth 60 fits 20000

ruleset listed = (list_sends, sent_sends, sent_syncs, out_sends, out_syncs, held)

pub kept_sends : IsSend kept.the_row
kept_sends = search listed depth 60 fits 20000

-- what a log begins with: its pages share frames
pub page_bytes_sends : IsSend page_bytes.the_row
page_bytes_sends = search (frame_sends, frame_syncs, held) depth 60 fits 20000

pub page_sends : IsSend page.the_row
page_sends = search (page_bytes_sends, held) depth 60 fits 20000

pub log_base_sends : IsSend log_base.the_row
log_base_sends = search (page_sends, out_sends, held) depth 60 fits 20000

pub turn_side_sends : (D : RattleType) → IsSend D → IsSend (turn_side.the_row D)
turn_side_sends D d = search (heap_sends, kept_sends, log_base_sends, held) depth 60 fits 20000

pub patch_side_sends : (D : RattleType) → IsSend D → IsSend (patch_side.the_row D)
patch_side_sends D d = search (frame_sends, frame_syncs, held) depth 60 fits 20000

pub patch_worker_sends : (D : RattleType) → IsSend D → IsSend (patch_worker.the_row D)
patch_worker_sends D d = search (frame_sends, frame_syncs, ring.the_send, held) depth 60 fits 20000

pub order_sends : IsSend order.the_row
order_sends = search sendable depth 60

pub message_sends : IsSend message.the_row
message_sends = search held depth 60

pub effects_sends : IsSend effects.the_row
effects_sends = search listed depth 60 fits 20000

pub feedback_sends : IsSend feedback.the_row
feedback_sends = search sendable depth 60

pub frozen_sends : IsSend frozen.the_row
frozen_sends = search (frame_sends, frame_syncs, held) depth 60

pub sealed_sends : IsSend sealed.the_row
sealed_sends = search listed depth 60 fits 20000

pub settled_sends : IsSend settled.the_row
settled_sends = search sendable depth 60

pub told_sends : IsSend told.the_row
told_sends = search sendable depth 60

pub turn_worker_sends : (D : RattleType) → IsSend D → IsSend (turn_worker.the_row D)
turn_worker_sends D d =
    declared_send (turn_worker.the_type D) (
      search held,
      (
        search sendable,
        (
          search sendable,
          (
            search sendable,
            (
              search (message_sends, held),
              (
                turn_side_sends D d,
                (
                  order_sends,
                  (
                    search (effects_sends, held),
                    (
                      feedback_sends,
                      (
                        search (frozen_sends, ring.the_send, held) depth 60,
                        (
                          search (sealed_sends, ring.the_send, held) depth 60,
                          (
                            search (settled_sends, ring.the_send, held) depth 60,
                            (
                              search (told_sends, ring.the_send, held) depth 60,
                              (search (told_sends, held), tt),
                            ),
                          ),
                        ),
                      ),
                    ),
                  ),
                ),
              ),
            ),
          ),
        ),
      ),
    )

pub take_end_sends : IsSend take_end.the_row
take_end_sends = search wired depth 60 fits 20000

pub send_end_sends : IsSend send_end.the_row
send_end_sends = search wired depth 60 fits 20000

pub wire_net_sends : (a : NamedLft) (R : RattleType) → IsSync R → IsSend (wire_net.the_row a R)
wire_net_sends a R y =
    declared_send (wire_net.the_type a R)
    (search sendable, (search sendable, (search sendable, (search sendable, (take_end_sends, (search (send_end_sends, held), tt))))))

pub lossy_sends : (B : RattleType) (g : base.Ghosts B.Denot) → IsSend B → IsSend (lossy.the_row B g)
lossy_sends B g b = declared_send (lossy.the_type B g) (search sendable, (search (maps.crosses, held) depth 60 fits 20000, tt))

pub handler_seat_sends : (a : NamedLft) (D N O A : RattleType) → IsSend D → IsSend N → IsSend O → IsSync A → IsSend (handler_seat.the_row a D N O A)
handler_seat_sends a D N O A d n o y =
    declared_send (handler_seat.the_type a D N O A) (turn_worker_sends D d, (search sendable, (search sendable, (search sendable, tt))))
