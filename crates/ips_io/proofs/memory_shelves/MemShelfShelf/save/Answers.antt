use Rattle.std.proofs.Common.{◌≡◌, ◌∙◌, sym, ap}
use Rattle.ips_io.specs.Files.{file_of}
use Rattle.ips_io.proofs.ShelfLaws.{put_file, put_others}
use Rattle.ips_io.proofs.memory_shelves.MemShelfShelf.save.Goals as goal

pub returns-then-put-clause-others : goal.returns-then-put-clause-others
returns-then-put-clause-others c old is new now other differs =
    let before : c.args.self.now.files ≡ old = cc in
    let after : c.put.new.self.files ≡ new = cc in
    ap (λ fs. file_of fs other) (sym after ∙ c.if-put.ensures.files)
    ∙ put_others c.self.inside.table.files c.args.name.now c.args.bytes.now other differs
    ∙ ap (λ fs. file_of fs other) (ap (λ v. v.files) c.self.view_is ∙ before)

pub returns-then-put-clause-saved : goal.returns-then-put-clause-saved
returns-then-put-clause-saved c new now =
    let after : c.put.new.self.files ≡ new = cc in
    ap (λ fs. file_of fs c.args.name.now) (sym after ∙ c.if-put.ensures.files)
    ∙ put_file c.self.inside.table.files c.args.name.now c.args.bytes.now
