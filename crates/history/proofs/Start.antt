-- The fresh list that Start writes is sound, and all its places are empty. Assumes nothing.
use Prim.Native.Nat.{ℕ, ◌<◌}
use mathlib.Core.Path.{◌≡◌, sym, ap, ◌∙◌}
use mathlib.Core.Bool.{true}
use Rattle.words.specs.Bytes.{are_bytes}
use Rattle.rules.specs.declared.kind.Kind.{Kind}
use Rattle.rules.specs.declared.item.Item.{Item}
use Rattle.rules.specs.declared.list.LockList.{LockList}
use Rattle.rules.specs.Locks.{item_at, pack, unpack}
use Rattle.rules.proofs.SoundList.{Shape, SoundLocks, unpacked, list_sound_so}
use Rattle.rules.proofs.Packing.{pack_long}
use Rattle.soundness.proofs.InBytes.{pack_bytes}
use Rattle.soundness.proofs.Kept.{SoundBoth}
use Rattle.history.specs.History.{Begun, first_state}
use Rattle.sizing.proofs.Fresh.{fresh, fresh_packed, fresh_at, fresh_shape, fresh_sound, Started, started}

-- the beginning is sound, and its list is the fresh one
module _ (kind : Kind) (g : Begun kind) where
  -- the list at the beginning, as it reads
  abbrev pub first : LockList
  first = fresh kind g.capacity g.openlimit g.locklimit g.rule g.users

  abbrev told : Started kind g.capacity g.openlimit g.locklimit g.rule g.users g.given
  told = started kind g.capacity g.openlimit g.locklimit g.rule g.users g.given g.accepted

  first_is : (first_state kind g).list ≡ pack first
  first_is = told.written ∙ sym (fresh_packed kind g.capacity g.openlimit g.locklimit g.rule g.users told.users_long)

  first_sound : SoundLocks kind first g.image
  first_sound = fresh_sound kind g.capacity g.openlimit g.locklimit g.rule g.users g.image told.limits

  first_shape : Shape first
  first_shape = fresh_shape kind g.capacity g.openlimit g.locklimit g.rule g.users told.users_long

  -- what Start wrote reads as that list, ..
  pub begun_list : unpack (first_state kind g).list ≡ first
  begun_list = rw first_is (unpacked kind first g.image first_sound first_shape)

  -- .. it is sound, and so is the image, ..
  pub begun_sound : SoundBoth kind (first_state kind g).list g.image
  begun_sound = rw first_is (record {
    image_sound = g.sound;
    list_long = pack_long first first_shape.items_long;
    list_sound = list_sound_so kind first g.image first_sound first_shape;
  })

  -- .. it is bytes, ..
  pub begun_bytes : are_bytes (first_state kind g).list ≡ true
  begun_bytes = rw first_is (pack_bytes kind first g.image first_sound first_shape)

  -- .. and its places are empty
  pub begun_empty : (i : ℕ) → i < 64 → (item_at first i).kind ≡ 0
  begun_empty i m = ap (λ (it : Item). it.kind) (fresh_at i m kind g.capacity g.openlimit g.locklimit g.rule g.users)
