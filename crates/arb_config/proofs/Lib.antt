pub mod RoleLaws
pub mod TreeViews
pub mod Repeats
pub mod Parts
pub mod Machines
pub mod WrittenLaws
