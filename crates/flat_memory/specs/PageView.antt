-- The page that a page of the plain machine stands for.
use Rattle.unix_model.specs.Memory as model
use Rattle.flat_memory.specs.declared.page.Page.{Page}

abbrev pub page_of : Page → model.Page
page_of page = record { writable = page.writable; bytes = page.bytes.items }
