-- An owner may cross threads as its value and its allocator may.
use mir.Raw.{raw}
use denote.RattleType.{RattleType}
use denote.Memory.{lone}
use denote.Builtin.{RawPtr}
use denote.Struct.Struct.{exits_of}
use denote.Struct.Owning.{shape, fields, to}
use denote.Param.Send.{IsSend, IsSync, Frees, owning_send, struct_send, struct_sync, sendable}
use Rattle.core.specs.declared.alloc.Allocator.{Ghosts}
use Rattle.std_alloc.proofs.SendSync.{quiet, lies, seen}
use Rattle.ken_frame.specs.contracts.raw.Own as own

pointer_send : IsSend RawPtr
pointer_send = search sendable

pointer_sync : IsSync RawPtr
pointer_sync = search sendable

module _ (T A : RattleType) (g : Ghosts A.Denot) where
  pub Own-send : IsSend T → IsSend A → Frees g g.dealloc_token → IsSend (own.the_row T A g)
  Own-send t a f = let O = own.the_type T A g in owning_send O (pointer_send, (a, tt))
      (λ o. (lies T t o.at o.value, f.frees o.alloc (raw (lone T.mir)) o.at))
      (λ k. quiet (to O) (exits_of k (fields O)) ((struct_send (shape O) (pointer_send, (a, tt))).leaving k))

  pub Own-sync : IsSync T → IsSync A → IsSync (own.the_row T A g)
  Own-sync t a = let O = own.the_type T A g in record {
    shared = λ o b i κ. ((struct_sync (shape O) (pointer_sync, (a, tt))).shared (to O o) b i κ, seen T t o.at o.value κ);
  }
