-- What `tgammaf` promises.
pub mod Tgammaf
